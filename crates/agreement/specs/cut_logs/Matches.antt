-- When a step of nodes that cut their logs is a step on the whole logs.
use Rattle.std.specs.Prelude.{◌≤◌, ◌≡◌, List, length}
use Rattle.agreement.specs.whole_logs.Losses.{Thinned}
use Rattle.agreement.specs.whole_logs.StepOutcome.{Outcome as WholeOutcome}
use Rattle.ballot_base.specs.StepOutcome.{Outcome}
use Rattle.ballot_base.specs.Replica.{ReplicaState}
use Rattle.agreement.specs.cut_logs.Whole.{whole, whole_effects}

-- a replica whose base lies within the record, and within what it applied
pub record IsBased {S C : Type 0} (archive : List C) (replica : ReplicaState S C) : Type 0 where
  pub within : replica.log.base ≤ length archive
  pub low : replica.log.base ≤ replica.committed

-- an outcome corresponds to one on whole logs, which may have more messages: a tick there repeats
-- places that are dropped here
pub record OutcomeMatches {S C O : Type 0} (archive : List C) (outcome : Outcome S C O)
    (whole_outcome : WholeOutcome S C O) : Type 0 where
  pub state : whole archive outcome.state ≡ whole_outcome.state
  pub effects : Thinned (whole_effects archive outcome.effects) whole_outcome.effects
