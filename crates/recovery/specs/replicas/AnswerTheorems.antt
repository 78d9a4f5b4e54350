-- What all members hold is agreed, and the primary that they follow answers commands.
use Rattle.std.specs.Prelude.{ℕ, ◌+◌, ◌*◌, ◌<◌, ◌≡◌, false, List, [], ◌∷◌, ◌++◌, length, map}
use Rattle.std.specs.Prelude.{slice_get, Some}
use Rattle.machine.specs.Machine.{Rules, replay}
use Rattle.lists.specs.Lists.{In}
use Rattle.agreement.specs.whole_logs.Messages.Body.{Held}
use Rattle.ballot_base.specs.declared.config.Config.{Config}
use Rattle.agreement.specs.whole_logs.Messages.{Effect}
use Rattle.agreement.specs.whole_logs.Messages.Effect.{Out}
use Rattle.agreement.specs.whole_logs.Protocol.{received, replica_step}
use Rattle.agreement.specs.whole_logs.Protocol.Input.{Proposes}
use Rattle.agreement.specs.whole_logs.Replica.{ReplicaState}
use Rattle.agreement.specs.whole_logs.StepOutcome.{Outcome}
use Rattle.ballot_base.specs.Service.{max_places}
use Rattle.agreement.specs.Moments.{Moment, Moments, IsAgreed}
use Rattle.agreement.specs.World.{outputs}
use Rattle.recovery.specs.replicas.Deliveries.{NumbersAreApart, Delivered, NodeIs, after_outcome, numbers_from}
use Rattle.recovery.specs.replicas.LedStates.{Follows, LeadsWhole}

-- all other members of the active ballot have acknowledged the whole log of its active primary
pub record AllHoldIt {S C O : Type 0} (moment : Moment S C O) (primary : ℕ) (log : List C)
    (others_of : List ℕ) : Type 0 where
  pub primary_serves : NodeIs (LeadsWhole moment.master.active log others_of) moment.world.nodes
      primary
  pub member : In primary moment.master.members
  pub all_named : (other : ℕ) → In other moment.master.members → (other ≡ primary → ⊥) →
      In other others_of
  pub told : (other : ℕ) → In other others_of →
      In (primary, record { from = other; body = Held moment.master.active (length log) })
      moment.world.sent

-- the log that all members hold is the agreed list, whatever came before
abbrev pub WhatAllHoldIsAgreed : {S C O : Type 0} → Rules S C O → Type 0
WhatAllHoldIsAgreed {S} {C} {O} rules =
    (config : Config) (moment : Moment S C O) (moments : List (Moment S C O)) →
    Moments rules config (moment ∷ moments) → (primary : ℕ) (log : List C) (others_of : List ℕ) →
    AllHoldIt moment primary log others_of → IsAgreed config (moment ∷ moments) log

-- a step of the primary that answers a command after a log: it outputs what the machine answers
-- there, before any message, and then serves the longer log
pub record AnswersCommand {S C O : Type 0} (rules : Rules S C O) (ballot : ℕ) (log : List C)
    (command : C) (others_of : List ℕ) (primary : ℕ) (outcome : Outcome S C O) : Type 0 where
  pub rest : List (Effect C O)
  pub silent : outputs rest ≡ []
  pub gives : outcome.effects
      ≡ map (Out (length log)) (rules.gives (replay rules log) command) ++ rest
  pub serves : LeadsWhole ballot (log ++ command ∷ []) others_of primary outcome.state

-- a proposal to the primary at an index, whose replica this is, when others follow: it outputs
-- nothing. The others are sent the command, and answer; the primary takes all answers except the
-- last, and when that one comes, it answers the command.
pub record IsHeldByAll {S C O : Type 0} (rules : Rules S C O) (moment : Moment S C O)
    (index ballot : ℕ) (replica : ReplicaState S C) (log : List C) (command : C)
    (front : List ℕ) (last : ℕ) : Type 0 where
  pub no_outputs : outputs (replica_step rules replica (Proposes command)).effects ≡ []
  pub before : Moment S C O
  pub delivered : Delivered rules ballot
      (after_outcome index (replica_step rules replica (Proposes command)) moment)
      (numbers_from (length moment.world.sent) (length front + 1)
      ++ numbers_from (length moment.world.sent + (length front + 1)) (length front)) before
  pub master : before.master ≡ moment.master
  pub sent : length before.world.sent ≡ length moment.world.sent + 2 * (length front + 1)
  pub told : (member : ℕ) → In member (front ++ last ∷ []) →
      In (index + 1, record { from = member; body = Held ballot (length log + 1) })
      before.world.sent
  pub comes : slice_get before.world.sent (length moment.world.sent + 2 * length front + 1)
      ≡ Some (index + 1, record { from = last; body = Held ballot (length log + 1) })
  pub primary : NodeIs (λ member state. (state.stopped ≡ false)
      × AnswersCommand rules ballot log command (front ++ last ∷ []) member
      (received rules state last (Held ballot (length log + 1))))
      before.world.nodes (index + 1)
  pub each : (member : ℕ) → In member (front ++ last ∷ []) →
      NodeIs (Follows ballot (log ++ command ∷ [])) before.world.nodes member

-- the primary that serves a ballot answers the next command: at once if it is the only member, and
-- otherwise when all others have answered
abbrev pub CommandsAreAnswered : {S C O : Type 0} → Rules S C O → Type 0
CommandsAreAnswered {S} {C} {O} rules =
    (config : Config) (moment : Moment S C O) (moments : List (Moment S C O)) →
    Moments rules config (moment ∷ moments) → (ballot index : ℕ) (replica : ReplicaState S C)
    (log : List C) (others_of : List ℕ) (command : C) →
    slice_get moment.world.nodes index ≡ Some replica →
    LeadsWhole ballot log others_of (index + 1) replica → length log < max_places →
    (others_of ≡ [] → AnswersCommand rules ballot log command [] (index + 1)
    (replica_step rules replica (Proposes command)))
    × ((front : List ℕ) (last : ℕ) → others_of ≡ front ++ last ∷ [] → NumbersAreApart others_of →
    (In (index + 1) others_of → ⊥) →
    ((other : ℕ) → In other others_of → NodeIs (Follows ballot log) moment.world.nodes other) →
    IsHeldByAll rules moment index ballot replica log command front last)
