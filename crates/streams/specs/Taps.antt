-- What the node of a run hands over for a port by a tap, which counts the bytes.
use Rattle.std.specs.Prelude.{◌≡◌, ℕ, ◌+◌, ◌-◌, Bool, List, [], ◌++◌, length, Some}
use Rattle.ballot_base.specs.declared.config.Config.{Config}
use Rattle.world_base.specs.declared.node_connections.handed.Handed.{Handed}
use Rattle.world_base.specs.declared.node_connections.handed.Handed.TheVariants.{Closed}
use Rattle.world_base.specs.declared.node_connections.port.Port.{Port}
use Rattle.world_base.specs.node_connections.PendingOutput.{handed_after, pending_bytes}
use Rattle.world_base.specs.node_core.PortOutput.{listed_at}
use Rattle.run_history.specs.declared.event.RunEvent.{RunEvent}
use Rattle.node.specs.Growth.{saturated}
use Rattle.node.specs.HandedBytes.{handed_at}
use Rattle.node.specs.HandedCounts.{counted_at}
use Rattle.node.specs.State.{IsOnRecord, NodeStateView}

-- a tap: the number of its node, its port, how many bytes were handed over by it, and a prefix of
-- the run's log, by which these are all that its node handed over there
pub record TapView : Type 0 where
  pub number : ℕ
  pub port : Port
  pub handed : ℕ
  pub log : List RunEvent

-- all bytes that the tap's node handed over for its port, in a run of so many nodes in this
-- configuration, by the log that the tap knows
abbrev pub handed_by : ℕ → Config → TapView → List ℕ
handed_by nodes config tap = handed_at nodes config (tap.number - 1) tap.port tap.log

-- nothing was handed over for the tap's port
abbrev pub HandsNone : ℕ → Config → TapView → Type 0
HandsNone nodes config tap = (tap.handed ≡ 0) × (handed_by nodes config tap ≡ [])

-- the tap is that of the node's port, and the node counts no other bytes there than the tap
abbrev pub IsNextTap : TapView → NodeStateView → Type 0
IsNextTap tap node =
    (node.receiver.inbox ≡ tap.number) × (counted_at node.counts tap.port ≡ Some tap.handed)

-- The tap's node, in a state that it has in the run, hands over all that is pending at the tap's
-- port, with this answer. By the run these bytes follow all that it had handed over there, and the
-- tap counts them (saturates at 2^64 - 1).
pub record IsHandedOver (linked : Bool) (nodes : ℕ) (config : Config) (before : TapView)
    (bytes : List ℕ) (answer : Handed) (after : TapView) : Type 0 where
  pub seen : NodeStateView
  pub on_record : IsOnRecord linked nodes config seen
  pub named : seen.receiver.inbox ≡ before.number
  pub bytes_are : bytes ≡ pending_bytes (listed_at before.port seen.node.core)
  pub answer_is : answer ≡ handed_after (listed_at before.port seen.node.core)
  pub follows : handed_by nodes config after ≡ handed_by nodes config before ++ bytes
  pub counts : after ≡ record before {
    handed = saturated (before.handed + length bytes);
    log = after.log;
  }

-- one call of a tap
pub data HandsOut (linked : Bool) (nodes : ℕ) (config : Config) (before : TapView) :
    List ℕ → Handed → TapView → Type 0 where
  -- the node hands over what is pending
  hands : {bytes : List ℕ} {answer : Handed} {after : TapView}
      → IsHandedOver linked nodes config before bytes answer after
      → HandsOut linked nodes config before bytes answer after
  -- the node counts other bytes there, as of another tap: nothing is handed over any more
  refuses : HandsOut linked nodes config before [] Closed before
