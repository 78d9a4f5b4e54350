-- What a call of a replica did, by whether it tells that nothing was lost.
use Rattle.std.specs.Prelude.{◌≡◌, Bool, true, false, List, ◌++◌}
use Rattle.machine.specs.Machine.{Rules}
use Rattle.ballot_base.specs.declared.message.Effect.{Effect}
use Rattle.ballot_base.specs.Losses.{Loses, one_more}
use Rattle.ballot_base.specs.Replica.{CountedReplica}
use Rattle.ballot_base.specs.StepOutcome.{Outcome}

-- The effects of a call were appended to what was there. If it was whole, the step was done
-- exactly; otherwise with losses, and these were counted.
pub record StepTold {S C O : Type 0} (rules : Rules S C O) (old : CountedReplica S C)
    (outcome : Outcome S C O) (whole : Bool) (new : CountedReplica S C)
    (before after : List (Effect C O)) : Type 0 where
  pub given : List (Effect C O)
  pub appended : after ≡ before ++ given
  pub exact : whole ≡ true →
      (new.state ≡ outcome.state) × (given ≡ outcome.effects) × (new.losses ≡ old.losses)
  pub lossy : whole ≡ false →
      Loses rules old.state outcome new.state given × (new.losses ≡ one_more old.losses)
