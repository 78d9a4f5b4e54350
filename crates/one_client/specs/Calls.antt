-- What a group's nodes are called to do, as seen from one port of one of them: that is all that a
-- connection's node learns of it, and all that its client gets from there.
use Rattle.std.specs.Prelude.{◌≡◌, ℕ, ◌<◌, ◌==◌, ◌&&◌, Bool, false, if◌then◌else◌, List, [], ◌∷◌, Option, Some}
use Rattle.std.specs.List.{list_any}
use Rattle.ballot_base.specs.declared.config.Config.{Config}
use Rattle.lists.specs.Lists.{Each}
use Rattle.world_base.specs.declared.node_connections.port.Port.{Port}
use Rattle.world_base.specs.declared.node_core.item.Item.TheVariants.{Opened, Bytes}
use Rattle.world_base.specs.node_core.Core.{CoreState}
use Rattle.world_base.specs.node_core.PortOutput.{listed_at, pending_bytes}
use Rattle.headline.specs.node_moves.Moves.{NodeCall}
use Rattle.headline.specs.node_moves.Moves.NodeCall.{takes, hands_out}
use Rattle.headline.specs.node_group.Group.{Group}
use Rattle.headline.specs.node_group.Steps.{GroupStep, GroupTrace}
use Rattle.headline.specs.node_group.Steps.GroupStep.{node_acts, node_loses, master_assigns, master_hears, assigns_unheard, answers_unheard}
use Rattle.headline.specs.node_group.Steps.GroupTrace.{opened, then_went}
use Rattle.headline.specs.byte_world.Transport.{IsFaithful, node_call_of}

-- ---- all steps

-- the calls of nodes in these steps, each with the index of its node, the newest first; a step of
-- the master has none
abbrev pub calls_on : {nodes : ℕ} {config : Config} {group : Group} →
    GroupTrace nodes config group → List (Option (ℕ × NodeCall))
calls_on (opened greatest can) = []
calls_on (then_went went step) = node_call_of step ∷ calls_on went

-- each step carries exactly the bytes of its call
abbrev pub AreFaithful : {nodes : ℕ} {config : Config} {group : Group} →
    GroupTrace nodes config group → Type 0
AreFaithful (opened greatest can) = Unit {0}
AreFaithful (then_went went step) = AreFaithful went × IsFaithful step

-- a number is that of a byte
abbrev pub IsByte : ℕ → Type 0
IsByte number = number < 256

-- what comes with a call are bytes
abbrev pub BringsBytes : Option (ℕ × NodeCall) → Type 0
BringsBytes (Some (node, takes (Bytes port piece now))) = Each IsByte piece
BringsBytes _ = Unit {0}

-- ---- one port

-- whether a port of a node is this one
abbrev pub is_port : ℕ → Port → ℕ → Port → Bool
is_port node port other at = (other == node) && (at.0 == port.0)

-- whether the node is told with a call that a connection was opened at the port
abbrev pub opens_at : ℕ → Port → Option (ℕ × NodeCall) → Bool
opens_at node port (Some (other, takes (Opened at now))) = is_port node port other at
opens_at node port _ = false

-- whether the node was told so in these steps
abbrev pub was_opened : ℕ → Port → {nodes : ℕ} {config : Config} {group : Group} →
    GroupTrace nodes config group → Bool
was_opened node port went = list_any (opens_at node port) (calls_on went)

-- the bytes that the node takes at the port with a call
abbrev pub bytes_at : ℕ → Port → Option (ℕ × NodeCall) → List ℕ
bytes_at node port (Some (other, takes (Bytes at piece now))) =
    if is_port node port other at then piece else []
bytes_at node port _ = []

-- the node took nothing at the port in these steps
abbrev pub TookNothing : ℕ → Port → {nodes : ℕ} {config : Config} {group : Group} →
    GroupTrace nodes config group → Type 0
TookNothing node port went = Each (λ call. bytes_at node port call ≡ []) (calls_on went)

-- what this node in this state hands over at the port with a call: all that it queued there
abbrev pub handed_with : ℕ → Port → ℕ → NodeCall → CoreState → List ℕ
handed_with node port other (hands_out at) core =
    if is_port node port other at then pending_bytes (listed_at at core) else []
handed_with node port other (takes item) core = []

-- what the node hands over at the port in a step
abbrev pub handed_at : ℕ → Port → {group next : Group} → GroupStep group next → List ℕ
handed_at node port (node_acts other core node_call outcome run at is first sent) =
    handed_with node port other node_call core
handed_at node port (node_loses other core item outcome kept by at runs sent thinned) = []
handed_at node port (master_assigns config) = []
handed_at node port (master_hears from ballot sent) = []
handed_at node port (assigns_unheard config) = []
handed_at node port (answers_unheard from ballot sent) = []
