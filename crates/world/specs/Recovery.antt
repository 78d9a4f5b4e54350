-- The recovery of a world: when there is one, and what it leads to.
use Rattle.std.specs.Prelude.{◌≡◌, ◌≤◌, ℕ, ◌+◌, true, false, List, [], ◌∷◌, Option, Some, None, slice_get}
use Rattle.std.specs.List.{list_all, position}
use Rattle.lists.specs.Lists.{IsPrefixOf}
use Rattle.agreement.specs.MasterState.{refusal}
use Rattle.ballot_base.specs.declared.config.Config.{Config}
use Rattle.ballot_base.specs.Logs.{places}
use Rattle.ballot_base.specs.Service.{max_places}
use Rattle.broker_spec.specs.declared.command.Command.{Command}
use Rattle.broker_spec.specs.Commands.{past_of, usual_limits}
use Rattle.broker_spec.specs.Sessions.{clean_session_of}
use Rattle.broker_spec.specs.Place.{Client}
use Rattle.client.specs.Core.{Core}
use Rattle.client_base.specs.State.{is_online}
use Rattle.world_base.specs.node_core.Core.{CountedCore, serves}
use Rattle.world_nodes.specs.Agreed.{AgreeOn}
use Rattle.world_nodes.specs.Nodes.{NodesState}
use Rattle.world_nodes.specs.RecoveryChecks.{whole_log_of}
use Rattle.world_nodes.specs.RunningNodes.{is_running, numbered_node}
use Rattle.world_pipes.specs.declared.events.event.Event.{Event}
use Rattle.world.specs.Found.{core_named}
use Rattle.world.specs.Trace.{WorldLosesNothing}
use Rattle.world.specs.Events.{EventsHappen}
use Rattle.world.specs.StandsFor.{IsReached}
use Rattle.world.specs.World.{WorldState}

-- ---- when there is one

-- a configuration by its members: the first of them is its primary
abbrev pub configuration_of : List ℕ → Config
configuration_of [] = record { members = []; primary = 0 }
configuration_of (first ∷ others) = record { members = first ∷ others; primary = first }

-- how long the log of a node is: 0 if there is none
abbrev pub log_length_of : Option CountedCore → ℕ
log_length_of None = 0
log_length_of (Some node) = places node.core.replica.state.log

-- The master assigns the next ballot to these members, and each of them runs. The first running
-- member of the active configuration, given by its index, has two places left in its log. The
-- client has a session that is not clean after the whole log of that member, agreed or not.
pub record CanEscape (members : List ℕ) (name : Client) (world : WorldState) : Type 0 where
  pub granted : refusal world.nodes.master (configuration_of members) ≡ None
  pub live : list_all (is_running world.nodes.nodes) members ≡ true
  pub index : ℕ
  pub first : position (is_running world.nodes.nodes) world.nodes.master.members ≡ Some index
  pub source : ℕ
  pub asked : slice_get world.nodes.master.members index ≡ Some source
  pub room : log_length_of (numbered_node world.nodes.nodes source) + 2 ≤ max_places
  pub core : Core
  pub client : core_named name world.clients ≡ Some core
  pub session :
      clean_session_of (past_of usual_limits (whole_log_of world.nodes source)) core.state.client
      ≡ Some false

-- ---- what it leads to

-- the node of this number has joined this ballot, and serves clients as its active primary
pub record ServesIn (ballot number : ℕ) (nodes : NodesState) : Type 0 where
  pub node : CountedCore
  pub numbered : numbered_node nodes.nodes number ≡ Some node
  pub joined : node.core.replica.state.joined ≡ ballot
  pub active : serves node.core ≡ true

-- The ballot that was to be assigned next is active, and has these members. Each of them runs, and
-- the first of them serves clients as its primary. What was agreed before is a prefix of what is
-- agreed now. The client is online, and its last CONNACK said that its session is present.
pub record HasEscaped (members : List ℕ) (name : Client) (old new : WorldState) : Type 0 where
  pub active : new.nodes.master.active ≡ old.nodes.master.given + 1
  pub formed : new.nodes.master.members ≡ members
  pub live : list_all (is_running new.nodes.nodes) members ≡ true
  pub primary : ServesIn (old.nodes.master.given + 1) (configuration_of members).primary new.nodes
  pub agreed : (before after : List Command) → AgreeOn old.nodes before → AgreeOn new.nodes after →
      IsPrefixOf before after
  pub core : Core
  pub client : core_named name new.clients ≡ Some core
  pub online : is_online core.state.stage ≡ true
  pub present : core.state.session_present ≡ true

-- whatever happened before, if none of these events loses anything
abbrev pub LeadsClientOut : List ℕ → Client → WorldState → List Event → Type 0
LeadsClientOut members name old events =
    (nodes : ℕ) (config : Config) (clients : List Client) (new : WorldState) →
    IsReached nodes config clients old → EventsHappen events old new → WorldLosesNothing old new →
    HasEscaped members name old new
