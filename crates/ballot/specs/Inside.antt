-- What the helpers of a replica ensure about the list of effects.
use Rattle.std.specs.Prelude.{◌≡◌, ◌<◌, Bool, true, false, List, ◌++◌}
use Rattle.machine.specs.Machine.{Rules}
use Rattle.ballot_base.specs.declared.message.Effect.{Effect}
use Rattle.ballot_base.specs.Logs.{Log, places, pushed}
use Rattle.ballot_base.specs.Losses.{Loses, SendsAndAddsNothing, halted}
use Rattle.ballot_base.specs.Replica.{CountedReplica}
use Rattle.ballot_base.specs.StepOutcome.{Outcome, message_to_followed}
use Rattle.ballot_base.specs.Sends.{Sends}
use Rattle.ballot_base.specs.Service.{commit}
use Rattle.ballot_base.specs.declared.message.Body.{Body}
use Rattle.ballot_base.specs.declared.message.Body.TheVariants.{Activated, Append}
use Rattle.ballot_base.specs.declared.errors.error.ProposeError.{ProposeError}
use Rattle.ballot_base.specs.declared.errors.error.ProposeError.TheVariants.{NotActive, LogFull, Memory, Halted}

-- what a call of a replica did, before its losses are counted: the step, if it was whole; otherwise
-- something was lost, and only if there was something to lose: a message, a place, or a snapshot
-- that has to be read and does not thaw
pub record ReadingStepOrLost {S C O : Type 0} (rules : Rules S C O) (old : CountedReplica S C)
    (outcome : Outcome S C O) (unread whole : Bool) (new : CountedReplica S C)
    (before after : List (Effect C O)) : Type 0 where
  pub given : List (Effect C O)
  pub appended : after ≡ before ++ given
  pub uncounted : new.losses ≡ old.losses
  pub exact : whole ≡ true → (new.state ≡ outcome.state) × (given ≡ outcome.effects)
  pub lossy : whole ≡ false → Loses rules old.state outcome new.state given
      × (SendsAndAddsNothing old.state outcome → unread ≡ true)

-- the same when no snapshot has to be read
abbrev pub PlainStepOrLost : {S C O : Type 0} → Rules S C O → CountedReplica S C → Outcome S C O →
    Bool → CountedReplica S C → List (Effect C O) → List (Effect C O) → Type 0
PlainStepOrLost rules old outcome whole new before after =
    ReadingStepOrLost rules old outcome false whole new before after

-- the replica has the state of the step, and its effects were appended; if it was not whole, some
-- messages among them were lost
abbrev pub MessagesOrLost : {S C O : Type 0} → CountedReplica S C → Outcome S C O → Bool →
    CountedReplica S C → List (Effect C O) → List (Effect C O) → Type 0
MessagesOrLost old outcome whole new before after =
    (new ≡ record old { state = outcome.state }) × Sends before after outcome.effects whole

-- what a proposal leaves behind if there was no memory for it
abbrev pub Lacks : {S C O : Type 0} →
    Rules S C O → ProposeError → CountedReplica S C → CountedReplica S C → Type 0
Lacks rules NotActive old new = ⊥
Lacks rules LogFull old new = ⊥
Lacks rules Memory old new = new ≡ old
Lacks rules Halted old new = new ≡ record old { state = halted rules old.state }

-- an active primary sends the others the start of its ballot, and commits what all hold
pub record ActivationOrLost {S C O : Type 0} (rules : Rules S C O) (old : CountedReplica S C)
    (whole : Bool) (new : CountedReplica S C) (before after : List (Effect C O)) : Type 0 where
  pub state : new.state ≡ (commit rules old.state).state
  pub sends : (front : Log C) (last : C) → old.state.log ≡ pushed front last →
      Sends before after
      (message_to_followed O old.state.id
      (Append old.state.joined (places front) last) old.state.progress
      ++ (commit rules old.state).effects) whole
  pub uncounted : new.losses ≡ old.losses

-- a step commits more places
abbrev pub CommitsMore : {S C O : Type 0} → CountedReplica S C → Outcome S C O → Type 0
CommitsMore old outcome = old.state.committed < outcome.state.committed

-- the step on a message applies commands: it begins a ballot, or commits more places
abbrev pub AppliesMore : {S C O : Type 0} → Body C → CountedReplica S C → Outcome S C O → Type 0
AppliesMore (Activated ballot) old outcome = Unit {0}
AppliesMore body old outcome = CommitsMore old outcome
