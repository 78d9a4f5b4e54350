-- The next command at the primary of a led ballot, if nodes cut their logs. Logs are meant as whole
-- ones.
use Rattle.std.specs.Prelude.{ℕ, ◌+◌, ◌*◌, ◌<◌, ◌≡◌, false, List, [], ◌∷◌, ◌++◌, length, map}
use Rattle.std.specs.Prelude.{slice_get, Some}
use Rattle.machine.specs.Machine.{Rules, replay}
use Rattle.lists.specs.Lists.{In}
use Rattle.ballot_base.specs.declared.config.Config.{Config}
use Rattle.ballot_base.specs.declared.message.Body.TheVariants.{Held}
use Rattle.ballot_base.specs.declared.message.Effect.{Effect}
use Rattle.ballot_base.specs.declared.message.Effect.TheVariants.{Out}
use Rattle.ballot_base.specs.Protocol.{received, replica_step}
use Rattle.ballot_base.specs.Protocol.Input.{Proposes}
use Rattle.ballot_base.specs.Replica.{ReplicaState}
use Rattle.ballot_base.specs.StepOutcome.{Outcome}
use Rattle.ballot_base.specs.Service.{max_places}
use Rattle.agreement.specs.cut_logs.Moments.{Moment, Moments, whole_moment}
use Rattle.agreement.specs.cut_logs.Whole.{whole}
use Rattle.agreement.specs.cut_logs.World.{outputs}
use Rattle.recovery.specs.replicas.Deliveries.{NumbersAreApart, NodeIs, numbers_from}
use Rattle.recovery.specs.replicas.LedStates.{Follows, LeadsWhole}
use Rattle.recovery.specs.replicas.CutDeliveries.{Delivered, after_outcome}

-- a step of the primary that answers a command after a log: it outputs what the machine answers
-- there, before any message, and then serves the longer log
pub record AnswersCommand {S C O : Type 0} (rules : Rules S C O) (archive : List C) (ballot : ℕ)
    (log : List C) (command : C) (others_of : List ℕ) (primary : ℕ)
    (outcome : Outcome S C O) : Type 0 where
  pub rest : List (Effect C O)
  pub silent : outputs rest ≡ []
  pub gives : outcome.effects
      ≡ map (Out (length log)) (rules.gives (replay rules log) command) ++ rest
  pub serves : LeadsWhole ballot (log ++ command ∷ []) others_of primary
      (whole archive outcome.state)

-- the primary at an index takes the last answer, and answers the command
pub record AnswersLast {S C O : Type 0} (rules : Rules S C O) (moment : Moment S C O)
    (index ballot : ℕ) (log : List C) (command : C) (others_of : List ℕ) (last : ℕ) : Type 0 where
  pub replica : ReplicaState S C
  pub stands : slice_get moment.world.nodes index ≡ Some replica
  pub runs : replica.stopped ≡ false
  pub answers : AnswersCommand rules moment.world.archive ballot log command others_of (index + 1)
      (received rules replica last (Held ballot (length log + 1)))

-- a proposal to the primary at an index, whose replica this is, when others follow: it outputs
-- nothing. The others are sent the command, and answer; the primary takes all answers except the
-- last, and when that one comes, it answers the command.
pub record IsHeldByAll {S C O : Type 0} (rules : Rules S C O) (moment : Moment S C O)
    (index ballot : ℕ) (replica : ReplicaState S C) (log : List C) (command : C)
    (front : List ℕ) (last : ℕ) : Type 0 where
  pub no_outputs : outputs (replica_step rules replica (Proposes command)).effects ≡ []
  pub before : Moment S C O
  pub delivered : Delivered rules ballot
      (after_outcome index (replica_step rules replica (Proposes command)) moment)
      (numbers_from (length moment.world.sent) (length front + 1)
      ++ numbers_from (length moment.world.sent + (length front + 1)) (length front)) before
  pub archive : before.world.archive ≡ moment.world.archive
  pub master : before.master ≡ moment.master
  pub sent : length before.world.sent ≡ length moment.world.sent + 2 * (length front + 1)
  pub comes : slice_get before.world.sent (length moment.world.sent + 2 * length front + 1)
      ≡ Some (index + 1, record { from = last; body = Held ballot (length log + 1) })
  pub primary : AnswersLast rules before index ballot log command (front ++ last ∷ []) last
  pub each : (member : ℕ) → In member (front ++ last ∷ []) →
      NodeIs (Follows ballot (log ++ command ∷ [])) (whole_moment before).world.nodes member

-- the primary that serves a ballot answers the next command: at once if it is the only member, and
-- otherwise when all others have answered
abbrev pub CutGroupsAnswer : {S C O : Type 0} → Rules S C O → Type 0
CutGroupsAnswer {S} {C} {O} rules =
    (config : Config) (moment : Moment S C O) (moments : List (Moment S C O)) →
    Moments rules config (moment ∷ moments) → (ballot index : ℕ) (replica : ReplicaState S C)
    (log : List C) (others_of : List ℕ) (command : C) →
    slice_get moment.world.nodes index ≡ Some replica →
    LeadsWhole ballot log others_of (index + 1) (whole moment.world.archive replica) →
    length log < max_places →
    (others_of ≡ [] → AnswersCommand rules moment.world.archive ballot log command [] (index + 1)
    (replica_step rules replica (Proposes command)))
    × ((front : List ℕ) (last : ℕ) → others_of ≡ front ++ last ∷ [] → NumbersAreApart others_of →
    (In (index + 1) others_of → ⊥) →
    ((other : ℕ) → In other others_of →
    NodeIs (Follows ballot log) (whole_moment moment).world.nodes other) →
    IsHeldByAll rules moment index ballot replica log command front last)
