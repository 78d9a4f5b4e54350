-- At each moment of a group a new ballot can be led to its start, which all its members then hold:
-- by which messages, in which order, and what is agreed after them.
--
-- One running member of the active configuration is enough, since each member holds everything that
-- is agreed. The messages are named by numbers that follow from counts alone, whatever was sent
-- before and whatever they contain. If the machine outputs nothing at the start of a ballot, no
-- node outputs anything on the way, so nothing is queued on its connections, and the first answer
-- in the new ballot is the CONNACK of the client that reconnects.
use Rattle.std.specs.Prelude.{ℕ, ◌+◌, ◌-◌, ◌*◌, ◌<◌, ◌≡◌, List, [], ◌∷◌, ◌++◌, length, None}
use Rattle.std.specs.Prelude.{slice_get, Some}
use Rattle.machine.specs.Machine.{Rules}
use Rattle.lists.specs.Lists.{In, IsPrefixOf}
use Rattle.agreement.specs.whole_logs.Messages.Body.{Held}
use Rattle.ballot_base.specs.declared.config.Config.{Config}
use Rattle.ballot_base.specs.Replica.{others}
use Rattle.ballot_base.specs.Service.{max_places}
use Rattle.agreement.specs.MasterState.{refusal}
use Rattle.agreement.specs.Moments.{Moment, Moments, IsAgreed}
use Rattle.recovery.specs.replicas.Deliveries.{Delivered, NodeIs, assigned_moment, recovery_messages}
use Rattle.recovery.specs.replicas.LedStates.{Follows, IsRunning, RunsWith, LeadsWhole}

-- the machine outputs nothing at the start of a ballot
abbrev pub StartsGiveNothing : {S C O : Type 0} → Rules S C O → Type 0
StartsGiveNothing {S = S} rules =
    (state : S) (ballot : ℕ) → rules.gives state (rules.start_of ballot) ≡ []

-- the conditions of a recovery: the master would not refuse the configuration, and the nodes that
-- it names run; the member at an index of the active configuration, whose whole log this is, runs
-- too, and the log has room for the ballot's start
pub record CanBeLed {S C O : Type 0} (moment : Moment S C O) (new : Config) (index source : ℕ)
    (log : List C) : Type 0 where
  pub granted : refusal moment.master new ≡ None
  pub live : (member : ℕ) → In member new.members → NodeIs IsRunning moment.world.nodes member
  pub asked : slice_get moment.master.members index ≡ Some source
  pub gives : NodeIs (RunsWith log) moment.world.nodes source
  pub room : length log < max_places

-- a moment at which a ballot is active, all its members hold this log, and its primary has applied
-- it and knows that they do
pub record IsLed {S C O : Type 0} (ballot : ℕ) (new : Config) (log : List C)
    (moment : Moment S C O) : Type 0 where
  pub active : moment.master.active ≡ ballot
  pub members : moment.master.members ≡ new.members
  pub primary : NodeIs (LeadsWhole ballot log (others new.primary new.members)) moment.world.nodes
      new.primary
  pub each : (other : ℕ) → In other (others new.primary new.members) →
      NodeIs (Follows ballot log) moment.world.nodes other

-- moments continue to a later moment, if this list is agreed; what was agreed before is a
-- prefix of it
pub record GoesOnTo {S C O : Type 0} (rules : Rules S C O) (config : Config)
    (moments : List (Moment S C O)) (later : Moment S C O) (agreed : List C) : Type 0 where
  pub between : List (Moment S C O)
  pub came : Moments rules config (later ∷ (between ++ moments))
  pub agrees : IsAgreed config (later ∷ (between ++ moments)) agreed
  pub grown : (before : List C) → IsAgreed config moments before → IsPrefixOf before agreed

-- a recovery: after an Assign of the configuration come the messages of `recovery_messages`; then
-- the next ballot is led, and the log that was fetched is agreed with the ballot's start after it
pub record LeadsOut {S C O : Type 0} (rules : Rules S C O) (config : Config)
    (moments : List (Moment S C O)) (moment : Moment S C O) (new : Config)
    (index : ℕ) (log : List C) : Type 0 where
  pub last : Moment S C O
  pub delivered : Delivered rules (moment.master.given + 1) (assigned_moment new moment)
      (recovery_messages (length moment.world.sent) (length moment.master.members) index
      (length new.members - 1)) last
  -- how many messages were sent then, and how many events led there, with the Assign
  pub sent : length last.world.sent + 1
      ≡ length moment.world.sent + length moment.master.members + 5 * length new.members
  pub events : length (recovery_messages (length moment.world.sent)
      (length moment.master.members) index (length new.members - 1)) + 1
      ≡ 4 * length new.members + 2
  pub led : IsLed (moment.master.given + 1) new
      (log ++ rules.start_of (moment.master.given + 1) ∷ []) last
  -- each other member has answered that it holds all of that log
  pub told : (other : ℕ) → In other (others new.primary new.members) →
      In (
        new.primary,
        record { from = other; body = Held (moment.master.given + 1) (length log + 1) },
      )
      last.world.sent
  pub goes : GoesOnTo rules config moments
      last (log ++ rules.start_of (moment.master.given + 1) ∷ [])

-- if starts have no output, there is a recovery at each moment of a group
abbrev pub HasRecovery : {S C O : Type 0} → Rules S C O → Type 0
HasRecovery {S} {C} {O} rules =
    StartsGiveNothing rules →
    (config : Config) (moment : Moment S C O) (moments : List (Moment S C O)) →
    Moments rules config (moment ∷ moments) → (new : Config) (index source : ℕ) (log : List C) →
    CanBeLed moment new index source log →
    LeadsOut rules config (moment ∷ moments) moment new index log
