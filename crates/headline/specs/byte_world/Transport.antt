-- What a step of a group carries on connections: for a call of a node exactly its bytes.
use Rattle.std.specs.Prelude.{◌≡◌, ℕ, Bool, true, false, List, [], Option, Some, None}
use Rattle.broker_spec.specs.Connection.{ConnectionName}
use Rattle.world_base.specs.declared.node_core.item.Item.TheVariants.{Peer, Tick, Opened, Bytes, Ended, Expel, Cut, Crash}
use Rattle.world_base.specs.node_core.Core.{CoreState, StepOutcome}
use Rattle.world_base.specs.node_core.PortOutput.{listed_at}
use Rattle.world_base.specs.node_core.PacketInput.{open_at}
use Rattle.headline.specs.node_moves.Ends.{piece_on}
use Rattle.headline.specs.node_moves.RunProposals.{bytes_on}
use Rattle.headline.specs.node_moves.Moves.{NodeCall, MoveTrace}
use Rattle.headline.specs.node_moves.Moves.NodeCall.{takes, hands_out}
use Rattle.headline.specs.node_group.Group.{Group}
use Rattle.headline.specs.node_group.Steps.{GroupStep}
use Rattle.headline.specs.node_group.Steps.GroupStep.{node_acts, node_loses, master_assigns, master_hears, assigns_unheard, answers_unheard}
use Rattle.headline.specs.node_group.Streams.{bytes_named, handed_in_run}

-- the bytes that arrive on the connection of a name with a call
abbrev pub coming_with : ConnectionName → NodeCall → CoreState → List ℕ
coming_with name (takes (Bytes port piece now)) core = piece_on name piece (open_at port core)
coming_with name _ core = []

-- the bytes that are handed over on the connection of a name with a call
abbrev pub going_with : ConnectionName → NodeCall → CoreState → List ℕ
going_with name (hands_out port) core = bytes_named name (listed_at port core)
going_with name _ core = []

-- the moves of a node carry exactly the bytes of its call
abbrev pub CarriesItsBytes : {core : CoreState} {outcome : StepOutcome} → NodeCall →
    MoveTrace core outcome → Type 0
CarriesItsBytes {core = core} node_call run =
    (name : ConnectionName) →
    (bytes_on name run ≡ coming_with name node_call core)
    × (handed_in_run name run ≡ going_with name node_call core)

-- a step carries exactly the bytes of its call; of a step with losses nothing is required here
abbrev pub IsFaithful : {before after : Group} → GroupStep before after → Type 0
IsFaithful (node_acts node core node_call outcome run at is first sent) =
    CarriesItsBytes node_call run
IsFaithful (node_loses node core item outcome kept by at runs sent thinned) = Unit {0}
IsFaithful (master_assigns config) = Unit {0}
IsFaithful (master_hears from ballot sent) = Unit {0}
IsFaithful (assigns_unheard config) = Unit {0}
IsFaithful (answers_unheard from ballot sent) = Unit {0}

-- the call that a node does in a step, with its index; none in a step of the master
abbrev pub node_call_of : {before after : Group} → GroupStep before after → Option (ℕ × NodeCall)
node_call_of (node_acts node core node_call outcome run at is first sent) = Some (node, node_call)
node_call_of (node_loses node core item outcome kept by at runs sent thinned) =
    Some (node, takes item)
node_call_of (master_assigns config) = None
node_call_of (master_hears from ballot sent) = None
node_call_of (assigns_unheard config) = None
node_call_of (answers_unheard from ballot sent) = None

-- a call that has nothing to do with a client's connection, except that it may end it
abbrev pub is_apart : Option (ℕ × NodeCall) → Bool
is_apart None = true
is_apart (Some (node, takes (Peer message))) = true
is_apart (Some (node, takes (Tick now))) = true
is_apart (Some (node, takes (Ended port))) = true
is_apart (Some (node, takes (Expel client))) = true
is_apart (Some (node, takes Cut)) = true
is_apart (Some (node, takes Crash)) = true
is_apart (Some (node, takes (Opened port now))) = false
is_apart (Some (node, takes (Bytes port piece now))) = false
is_apart (Some (node, hands_out port)) = false

-- a step of the group with this call, in which exactly the bytes of the call are carried
pub record DoesCall (group : Group) (node_call : Option (ℕ × NodeCall)) : Type 0 where
  pub after : Group
  pub step : GroupStep group after
  pub is : node_call_of step ≡ node_call
  pub faithful : IsFaithful step
