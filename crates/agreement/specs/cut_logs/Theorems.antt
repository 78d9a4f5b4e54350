-- What holds for all moments of a group whose nodes cut their logs. Logs are meant as whole ones.
use Rattle.std.specs.Prelude.{ℕ, ◌<◌, ◌≤◌, ◌≡◌, false, List, ◌∷◌, length, map, take, slice_get}
use Rattle.std.specs.Prelude.{Option, Some, None}
use Rattle.machine.specs.Machine.{Rules, replay}
use Rattle.lists.specs.Lists.{In, IsPrefixOf}
use Rattle.agreement.specs.Agreement.{Agrees, Holds}
use Rattle.agreement.specs.LeftOutputs.{LeftInOrder}
use Rattle.agreement.specs.Moments.{IsAgreed}
use Rattle.agreement.specs.Primaries.{IsPrimary}
use Rattle.agreement.specs.Replays.{AreReplays}
use Rattle.ballot_base.specs.declared.config.Config.{Config}
use Rattle.ballot_base.specs.declared.message.Body.{Body}
use Rattle.ballot_base.specs.declared.message.Body.TheVariants.{State, Install}
use Rattle.ballot_base.specs.declared.message.Message.{Message}
use Rattle.ballot_base.specs.Logs.{Log}
use Rattle.ballot_base.specs.Replica.{ReplicaState}
use Rattle.ballot_base.specs.Unread.{is_unread}
use Rattle.agreement.specs.cut_logs.Moments.{Moment, Moments, whole_moment}
use Rattle.agreement.specs.cut_logs.World.{whole_world}

-- there is an agreed list at each moment
abbrev pub HasAgreed : {S C O : Type 0} → Rules S C O → Type 0
HasAgreed {S} {C} {O} rules =
    (config : Config) (moment : Moment S C O) (moments : List (Moment S C O)) →
    Moments rules config (moment ∷ moments) →
    (agreed : List C) × IsAgreed config (map whole_moment (moment ∷ moments)) agreed

-- the nodes agree on it, and a member of the active ballot holds it; what left is its answers in
-- order, and the record of places is a prefix of it
abbrev pub NodesAgree : {S C O : Type 0} → Rules S C O → Type 0
NodesAgree {S} {C} {O} rules =
    (config : Config) (moment : Moment S C O) (moments : List (Moment S C O)) (agreed : List C) →
    Moments rules config (moment ∷ moments) →
    IsAgreed config (map whole_moment (moment ∷ moments)) agreed →
    Agrees rules moment.master (whole_world moment.world) agreed
    × Holds moment.master (whole_world moment.world) agreed
    × LeftInOrder rules (map whole_moment (moment ∷ moments)) (whole_world moment.world) agreed
    × IsPrefixOf moment.world.archive agreed

-- what is agreed begins what is agreed at the next moment
abbrev pub AgreedGrows : {S C O : Type 0} → Rules S C O → Type 0
AgreedGrows {S} {C} {O} rules =
    (config : Config) (moment : Moment S C O) (moments : List (Moment S C O))
    (agreed later : List C) → IsAgreed config (map whole_moment moments) agreed →
    IsAgreed config (map whole_moment (moment ∷ moments)) later → IsPrefixOf agreed later

-- the machine of each node that runs is the replay of the places that it applied
abbrev pub MachinesReplay : {S C O : Type 0} → Rules S C O → Type 0
MachinesReplay {S} {C} {O} rules =
    (config : Config) (moment : Moment S C O) (moments : List (Moment S C O)) →
    Moments rules config (moment ∷ moments) → AreReplays rules (whole_world moment.world)

-- the base of each log lies within the record and within what is applied; a snapshot is the frozen
-- replay of the places below it, and thaws to that
pub record IsCutRight {S C O : Type 0} (rules : Rules S C O) (archive : List C)
    (replica : ReplicaState S C) : Type 0 where
  pub recorded : replica.log.base ≤ length archive
  pub applied : replica.log.base ≤ replica.committed
  pub bytes : 0 < replica.log.base →
      replica.log.snapshot ≡ rules.frozen (replay rules (take replica.log.base archive))
  pub snapshot : 0 < replica.log.base →
      rules.thawed replica.log.snapshot ≡ Some (replay rules (take replica.log.base archive))

-- each log of a group is cut right
abbrev pub LogsAreCutRight : {S C O : Type 0} → Rules S C O → Type 0
LogsAreCutRight {S} {C} {O} rules =
    (config : Config) (moment : Moment S C O) (moments : List (Moment S C O)) →
    Moments rules config (moment ∷ moments) →
    (node : ℕ) (replica : ReplicaState S C) → slice_get moment.world.nodes node ≡ Some replica →
    IsCutRight rules moment.world.archive replica

-- the log that a message brings
abbrev pub log_in : {C : Type 0} → Body C → Option (Log C)
log_in (State ballot log) = Some log
log_in (Install ballot log) = Some log
log_in _ = None

-- the log in a message that was sent is cut right
pub record IsSentRight {S C O : Type 0} (rules : Rules S C O) (archive : List C)
    (log : Log C) : Type 0 where
  pub recorded : log.base ≤ length archive
  pub bytes : 0 < log.base → log.snapshot ≡ rules.frozen (replay rules (take log.base archive))
  pub snapshot : 0 < log.base
      → rules.thawed log.snapshot ≡ Some (replay rules (take log.base archive))

-- each log that was sent is right
abbrev pub SentLogsAreRight : {S C O : Type 0} → Rules S C O → Type 0
SentLogsAreRight {S} {C} {O} rules =
    (config : Config) (moment : Moment S C O) (moments : List (Moment S C O)) →
    Moments rules config (moment ∷ moments) →
    (to : ℕ) (message : Message C) → In (to, message) moment.world.sent →
    (log : Log C) → log_in message.body ≡ Some log → IsSentRight rules moment.world.archive log

-- if a node has to read the snapshot of a message, it can be read
abbrev pub SnapshotsAreRead : {S C O : Type 0} → Rules S C O → Type 0
SnapshotsAreRead {S} {C} {O} rules =
    (config : Config) (moment : Moment S C O) (moments : List (Moment S C O)) →
    Moments rules config (moment ∷ moments) →
    (to : ℕ) (message : Message C) → In (to, message) moment.world.sent →
    (replica : ReplicaState S C) → is_unread rules replica message.body ≡ false

-- a ballot has one active primary at most, over all moments of a group
abbrev pub OnePrimaryABallot : {S C O : Type 0} → Rules S C O → Type 0
OnePrimaryABallot {S} {C} {O} rules =
    (config : Config) (moment : Moment S C O) (moments : List (Moment S C O)) →
    Moments rules config (moment ∷ moments) →
    (first second : Moment S C O) (node other ballot : ℕ) →
    In first (moment ∷ moments) → In second (moment ∷ moments) →
    IsPrimary (whole_world first.world) node ballot →
    IsPrimary (whole_world second.world) other ballot → node ≡ other
