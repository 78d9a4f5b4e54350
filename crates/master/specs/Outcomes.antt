-- What an event does: the step of a node, a cut of its log, or the answer of the master.
use Rattle.std.specs.Prelude.{ℕ, zero, suc, Bool, true, List, [], slice_get, Option, Some, None}
use Rattle.std.specs.Prelude.{◌&&◌, nat_lt, if◌then◌else◌}
use Rattle.machine.specs.Machine.{Rules}
use Rattle.ballot_base.specs.Compaction.{can_cut, cut}
use Rattle.ballot_base.specs.Logs.{places}
use Rattle.ballot_base.specs.Losses.{halted}
use Rattle.ballot_base.specs.Protocol.{Input, replica_step}
use Rattle.ballot_base.specs.Protocol.Input.{Receives, Proposes, Ticks}
use Rattle.ballot_base.specs.Replica.{ReplicaState, is_active}
use Rattle.ballot_base.specs.StepOutcome.{Outcome}
use Rattle.ballot_base.specs.Service.{max_places}
use Rattle.agreement.specs.cut_logs.Masters.{MasterOutcome}

-- the node of a number, if it exists and has not stopped
abbrev pub unless_stopped : {S C : Type 0} → Option (ReplicaState S C) → Option (ReplicaState S C)
unless_stopped None = None
unless_stopped (Some replica) = if replica.stopped then None else Some replica

-- the node of a number, from 1
abbrev pub running : {S C : Type 0} → List (ReplicaState S C) → ℕ → Option (ReplicaState S C)
running nodes zero = None
running nodes (suc at) = unless_stopped (slice_get nodes at)

-- what an event does to a node: its index, its state before, and the outcome of its step
pub record NodeOutcome (S C O : Type 0) : Type 0 where
  pub index : ℕ
  pub before : ReplicaState S C
  pub outcome : Outcome S C O

-- what an event does: the step of a node, a cut of its log, the step of the master, or a message
-- that the master ignores
pub data EventOutcome (S C O : Type 0) : Type 0 where
  by_node : NodeOutcome S C O → EventOutcome S C O  -- a node takes its step
  by_cut : NodeOutcome S C O → EventOutcome S C O  -- a node cuts its log
  by_master : MasterOutcome C → EventOutcome S C O  -- the master answers
  unheeded : EventOutcome S C O  -- the master ignores a message

-- a proposal needs an active primary whose log has room
abbrev pub can_take : {S C : Type 0} → ReplicaState S C → Input C → Bool
can_take replica (Proposes command) =
    is_active replica.role && nat_lt (places replica.log) max_places
can_take replica (Receives message) = true
can_take replica Ticks = true

-- the outcome for a node that takes an input, unless it refuses
abbrev pub outcome_of_taking : {S C O : Type 0} →
    Rules S C O → ℕ → Option (ReplicaState S C) → Input C → Option (EventOutcome S C O)
outcome_of_taking rules at None input = None
outcome_of_taking rules at (Some replica) input =
    if can_take replica input
    then Some (by_node (record {
      index = at;
      before = replica;
      outcome = replica_step rules replica input;
    }))
    else None

-- the outcome for a node that stops for good
abbrev pub stopping : {S C O : Type 0} →
    Rules S C O → ℕ → Option (ReplicaState S C) → Option (EventOutcome S C O)
stopping rules at None = None
stopping rules at (Some replica) =
    Some (by_node (record {
      index = at;
      before = replica;
      outcome = record { state = halted rules replica; effects = [] };
    }))

-- a log is cut if there is something to cut; nothing is sent
abbrev pub cut_outcome : {S C O : Type 0} → Rules S C O → ℕ → ReplicaState S C → NodeOutcome S C O
cut_outcome rules at replica =
    record {
      index = at;
      before = replica;
      outcome = record { state = cut rules replica; effects = [] };
    }

-- the cut of a node's log, if the node runs
abbrev pub outcome_of_cutting : {S C O : Type 0} →
    Rules S C O → ℕ → Option (ReplicaState S C) → Option (EventOutcome S C O)
outcome_of_cutting rules at None = None
outcome_of_cutting rules at (Some replica) =
    if can_cut replica then Some (by_cut (cut_outcome rules at replica)) else None
