-- Steps with losses, because memory ran out or a snapshot could not be read, and how they are
-- counted.
use Rattle.std.specs.Prelude.{ℕ, ◌+◌, ◌-◌, ◌^◌, ◌≡◌, ◌⊎◌, true, List, [], ◌∷◌, ◌++◌, min}
use Rattle.machine.specs.Machine.{Rules}
use Rattle.ballot_base.specs.declared.message.Message.{Message}
use Rattle.ballot_base.specs.declared.message.Effect.{Effect}
use Rattle.ballot_base.specs.declared.message.Effect.TheVariants.{To}
use Rattle.ballot_base.specs.Replica.{ReplicaState, CountedReplica}
use Rattle.ballot_base.specs.StepOutcome.{Outcome}

-- the first list is the second with some messages missing; no output is missing
pub data Thinned {C O : Type 0} : List (Effect C O) → List (Effect C O) → Type 0 where
  -- nothing is left
  none : Thinned [] []
  -- the next effect is kept
  keeps : {effect : Effect C O} {xs ys : List (Effect C O)} →
      Thinned xs ys → Thinned (effect ∷ xs) (effect ∷ ys)
  -- the next message is missing
  loses : {receiver : ℕ} {message : Message C} {xs ys : List (Effect C O)} →
      Thinned xs ys → Thinned xs (To receiver message ∷ ys)

-- a replica that stopped, as memory ran out while it applied or its node crashed: its other fields
-- stay as before, and its machine, which may have done a part of a command, is no longer shown
abbrev pub halted : {S C O : Type 0} → Rules S C O → ReplicaState S C → ReplicaState S C
halted rules replica = record replica { stopped = true; machine = rules.opening }

-- a step with losses: some messages are missing, or nothing was done, or the replica stopped
abbrev pub Loses : {S C O : Type 0} → Rules S C O →
    ReplicaState S C → Outcome S C O → ReplicaState S C → List (Effect C O) → Type 0
Loses rules old outcome new given =
    ((new ≡ outcome.state) × Thinned given outcome.effects)
    ⊎ (((new ≡ old) × (given ≡ [])) ⊎ ((new ≡ halted rules old) × (given ≡ [])))

-- the greatest number that a count of 64 bits has
abbrev pub greatest_count : ℕ
greatest_count = 2 ^ 64 - 1

-- the count of losses saturates at its greatest number
abbrev pub one_more : ℕ → ℕ
one_more losses = min (losses + 1) greatest_count

-- the step was done exactly, or with losses that were counted
abbrev pub ReplicaStepOrLost : {S C O : Type 0} → Rules S C O →
    CountedReplica S C → Outcome S C O → CountedReplica S C → List (Effect C O) → Type 0
ReplicaStepOrLost rules old outcome new given =
    ((new.state ≡ outcome.state) × (given ≡ outcome.effects) × (new.losses ≡ old.losses))
    ⊎ (Loses rules old.state outcome new.state given × (new.losses ≡ one_more old.losses))

-- the step was done, perhaps with messages missing, which was counted
pub record StepMessagesOrLost {S C O : Type 0} (old : CountedReplica S C) (outcome : Outcome S C O)
    (new : CountedReplica S C)
    (before after : List (Effect C O)) : Type 0 where
  pub given : List (Effect C O)
  pub appended : after ≡ before ++ given
  pub state : new.state ≡ outcome.state
  pub thinned : Thinned given outcome.effects
  pub counted : ((given ≡ outcome.effects) × (new.losses ≡ old.losses))
      ⊎ (new.losses ≡ one_more old.losses)

-- a step that sends nothing, adds nothing to the log and applies nothing
pub record SendsAndAddsNothing {S C O : Type 0} (old : ReplicaState S C) (outcome : Outcome S C O) :
    Type 0 where
  pub nothing_sent : outcome.effects ≡ []
  pub same_log : outcome.state.log ≡ old.log
  pub same_committed : outcome.state.committed ≡ old.committed

-- the step was done exactly, or with losses that were counted, and its effects were appended to
-- what was there
pub record AppendedStepOrLost {S C O : Type 0} (rules : Rules S C O) (old : CountedReplica S C)
    (outcome : Outcome S C O) (new : CountedReplica S C)
    (before after : List (Effect C O)) : Type 0 where
  pub given : List (Effect C O)
  pub appended : after ≡ before ++ given
  pub steps : ReplicaStepOrLost rules old outcome new given
