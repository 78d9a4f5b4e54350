-- Steps in which memory ran out.
use Rattle.std.specs.Prelude.{ℕ, ◌≡◌, ◌⊎◌, true, List, [], ◌∷◌}
use Rattle.machine.specs.Machine.{Rules}
use Rattle.agreement.specs.whole_logs.Messages.{Message, Effect}
use Rattle.agreement.specs.whole_logs.Messages.Effect.{To}
use Rattle.agreement.specs.whole_logs.Replica.{ReplicaState}
use Rattle.agreement.specs.whole_logs.StepOutcome.{Outcome}

-- the first list is the second with some messages missing; no output is missing
pub data Thinned {C O : Type 0} : List (Effect C O) → List (Effect C O) → Type 0 where
  -- nothing is left
  none : Thinned [] []
  -- the next effect is kept
  keeps : {effect : Effect C O} {xs ys : List (Effect C O)} →
      Thinned xs ys → Thinned (effect ∷ xs) (effect ∷ ys)
  -- the next message is missing
  loses : {receiver : ℕ} {message : Message C} {xs ys : List (Effect C O)} →
      Thinned xs ys → Thinned xs (To receiver message ∷ ys)

-- a replica that stopped, as memory ran out while it applied or its node crashed: its other fields
-- stay as before, and its machine, which may have done a part of a command, is no longer shown
abbrev pub halted : {S C O : Type 0} → Rules S C O → ReplicaState S C → ReplicaState S C
halted rules replica = record replica { stopped = true; machine = rules.opening }

-- a step with losses: some messages are missing, or nothing was done, or the replica stopped
abbrev pub Loses : {S C O : Type 0} → Rules S C O →
    ReplicaState S C → Outcome S C O → ReplicaState S C → List (Effect C O) → Type 0
Loses rules old outcome new given =
    ((new ≡ outcome.state) × Thinned given outcome.effects)
    ⊎ (((new ≡ old) × (given ≡ [])) ⊎ ((new ≡ halted rules old) × (given ≡ [])))
