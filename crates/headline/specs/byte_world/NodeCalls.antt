-- A world can continue: each call of a node has moves that carry exactly its bytes.
use Rattle.std.specs.Prelude.{◌≡◌, ℕ, ◌+◌, true, if◌then◌else◌, List, slice_get, Some}
use Rattle.lists.specs.Lists.{In}
use Rattle.ballot_base.specs.declared.message.Effect.{Effect}
use Rattle.broker_spec.specs.declared.command.Command.{Command}
use Rattle.broker_spec.specs.declared.command.Output.{Output}
use Rattle.world_base.specs.declared.node_core.item.Item.TheVariants.{Peer, Cut}
use Rattle.ballot_base.specs.Compaction.{can_cut}
use Rattle.world_base.specs.node_core.Core.{CoreState, StepOutcome, rules}
use Rattle.headline.specs.node_moves.Receipts.{HearsAtFirst}
use Rattle.headline.specs.node_moves.Moves.{NodeCall, MoveTrace, done}
use Rattle.headline.specs.node_moves.Moves.NodeCall.{takes}
use Rattle.headline.specs.node_group.Group.{Group, group_after_outcome, replica_of, with_record}
use Rattle.headline.specs.node_group.Steps.{AllWasSent}
use Rattle.headline.specs.node_group.Proposals.{recorded_in}
use Rattle.agreement.specs.cut_logs.World.{recorded}
use Rattle.headline.specs.byte_world.Steps.{CarriesItsBytes, DoesCall}

-- what a node takes from others was sent to it, and the bytes to which it cuts its log thaw to its
-- machine
abbrev pub NodeCallWasSent : Group → ℕ → CoreState → NodeCall → Type 0
NodeCallWasSent group node core (takes (Peer message)) = In (node + 1, message) group.sent
NodeCallWasSent group node core (takes Cut) =
    can_cut (replica_of core) ≡ true →
    rules.thawed (rules.frozen (replica_of core).machine) ≡ Some (replica_of core).machine
NodeCallWasSent group node core _ = Unit {0}

-- the record of places after a call: a cut adds what the log that is cut has applied
abbrev pub recorded_after : List Command → CoreState → NodeCall → List Command
recorded_after archive core (takes Cut) =
    if can_cut (replica_of core) then recorded archive (replica_of core) else archive
recorded_after archive core _ = archive

-- moves in which a node's replica first receives what was sent, exactly the bytes of the call are
-- carried, and only a cut is recorded
pub record RunsAs (group : Group) (node : ℕ) (node_call : NodeCall) (core : CoreState)
    (outcome : StepOutcome) : Type 0 where
  pub run : MoveTrace core outcome
  pub first : HearsAtFirst run
  pub sent : AllWasSent group node run
  pub bytes : CarriesItsBytes node_call run
  pub records : (archive : List Command) →
      recorded_in archive run ≡ recorded_after archive core node_call

-- each call of a node, in any state of the node, is done by moves that carry exactly its bytes
abbrev pub NodeCallsCarryTheirBytes : Type 0
NodeCallsCarryTheirBytes =
    (group : Group) (node : ℕ) (node_call : NodeCall) (core : CoreState) →
    NodeCallWasSent group node core node_call →
    RunsAs group node node_call core (done node_call core)

-- a step of a group with this call of a node, after which the node is as its own outcome says,
-- and the record as the call leaves it; the only other change are the outputs of the node
pub record DoesNodeCall (group : Group) (node : ℕ) (node_call : NodeCall)
    (core : CoreState) : Type 0 where
  pub does : DoesCall group (Some (node, node_call))
  pub given : List (Effect Command Output)
  pub is : does.after
      ≡ group_after_outcome (with_record group (recorded_after group.archive core node_call)) node
      (done node_call core) given

-- in any group, a node can do each call
abbrev pub GroupsDoEachNodeCall : Type 0
GroupsDoEachNodeCall =
    (group : Group) (node : ℕ) (node_call : NodeCall) (core : CoreState) →
    slice_get group.nodes node ≡ Some core → NodeCallWasSent group node core node_call →
    DoesNodeCall group node node_call core
