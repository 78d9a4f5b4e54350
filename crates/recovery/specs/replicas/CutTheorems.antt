-- The way to the next ballot, for groups whose nodes cut their logs. Logs are meant as whole ones.
use Rattle.std.specs.Prelude.{ℕ, ◌+◌, ◌-◌, ◌*◌, ◌≡◌, List, [], ◌∷◌, ◌++◌, length}
use Rattle.machine.specs.Machine.{Rules}
use Rattle.lists.specs.Lists.{IsPrefixOf}
use Rattle.ballot_base.specs.declared.config.Config.{Config}
use Rattle.agreement.specs.cut_logs.Moments.{IsAgreed, Moment, Moments, whole_moment}
use Rattle.recovery.specs.replicas.Deliveries.{recovery_messages}
use Rattle.recovery.specs.replicas.Theorems.{CanBeLed, IsLed, StartsGiveNothing}
use Rattle.recovery.specs.replicas.CutDeliveries.{Delivered, assigned_moment}

-- moments continue to a later moment, if this list is agreed; what was agreed before is a
-- prefix of it
pub record GoesOnTo {S C O : Type 0} (rules : Rules S C O) (config : Config)
    (moments : List (Moment S C O)) (later : Moment S C O) (agreed : List C) : Type 0 where
  pub between : List (Moment S C O)
  pub came : Moments rules config (later ∷ (between ++ moments))
  pub agrees : IsAgreed config (later ∷ (between ++ moments)) agreed
  pub grown : (before : List C) → IsAgreed config moments before → IsPrefixOf before agreed

-- a recovery: after an Assign of the configuration come the messages of `recovery_messages`; then
-- the next ballot is led, and the whole log that was fetched is agreed with the ballot's start
-- after it
pub record LeadsOut {S C O : Type 0} (rules : Rules S C O) (config : Config)
    (moments : List (Moment S C O)) (moment : Moment S C O) (new : Config)
    (index : ℕ) (log : List C) : Type 0 where
  pub last : Moment S C O
  pub delivered : Delivered rules (moment.master.given + 1) (assigned_moment new moment)
      (recovery_messages (length moment.world.sent) (length moment.master.members) index
      (length new.members - 1)) last
  -- no log is cut on the way
  pub archive : last.world.archive ≡ moment.world.archive
  -- how many messages were sent then, and how many events led there, with the Assign
  pub sent : length last.world.sent + 1
      ≡ length moment.world.sent + length moment.master.members + 5 * length new.members
  pub events : length (recovery_messages (length moment.world.sent)
      (length moment.master.members) index (length new.members - 1)) + 1
      ≡ 4 * length new.members + 2
  pub led : IsLed (moment.master.given + 1) new
      (log ++ rules.start_of (moment.master.given + 1) ∷ []) (whole_moment last)
  pub goes : GoesOnTo rules config moments
      last (log ++ rules.start_of (moment.master.given + 1) ∷ [])

-- if starts have no output, there is a recovery at each moment of a group, whichever logs were cut
abbrev pub CutGroupsHaveRecoveries : {S C O : Type 0} → Rules S C O → Type 0
CutGroupsHaveRecoveries {S} {C} {O} rules =
    StartsGiveNothing rules →
    (config : Config) (moment : Moment S C O) (moments : List (Moment S C O)) →
    Moments rules config (moment ∷ moments) → (new : Config) (index source : ℕ) (log : List C) →
    CanBeLed (whole_moment moment) new index source log
    → LeadsOut rules config (moment ∷ moments) moment new index log
