-- Definitions for the private functions of a group: nodes, its moment and its counters.
pub mod Losses
use Rattle.std.specs.Prelude.{ℕ, false, ◌-◌, ◌<◌, ◌≤◌, ◌≡◌, List, [], ◌∷◌, length, map, min, get_or}
use Rattle.std.specs.Prelude.{slice_get, Option, Some, None, nat_lt, if◌then◌else◌}
use Rattle.machine.specs.Machine.{Rules}
use Rattle.ballot_base.specs.declared.message.Body.{Body}
use Rattle.ballot_base.specs.declared.message.Body.TheVariants.{Activate, Activated, Superseded}
use Rattle.ballot_base.specs.declared.config.Config.{Config}
use Rattle.ballot_base.specs.LawfulConfig.{max_node}
use Rattle.ballot_base.specs.declared.message.Message.{Message}
use Rattle.ballot_base.specs.declared.message.Effect.{Effect}
use Rattle.ballot_base.specs.Logs.{places}
use Rattle.lists.specs.Lists.{Each, In}
use Rattle.ballot_base.specs.Replica.{ReplicaState, CountedReplica}
use Rattle.master.specs.declared.activation.Activation.{Activation}
use Rattle.master.specs.declared.activation.Activation.TheVariants as activation
use Rattle.master.specs.AcknowledgedLengths.{max_acknowledged}
use Rattle.agreement.specs.MasterState.{MasterState}
use Rattle.agreement.specs.cut_logs.Moments.{Moment, Moments}
use Rattle.agreement.specs.cut_logs.World.{CutGroupWorld, outputs}
use Rattle.master.specs.Outcomes.{running}

-- the node of a number runs, at an index
pub record RunsAt {S C : Type 0} (nodes : List (ReplicaState S C)) (node at : ℕ) : Type 0 where
  pub replica : ReplicaState S C
  pub index : at ≡ node - 1
  pub positive : 0 < node
  pub below : at < length nodes
  pub stands : slice_get nodes at ≡ Some replica
  pub runs : running nodes node ≡ Some replica
  pub going : replica.stopped ≡ false

-- how long the log of a node is, if the node exists
abbrev pub held_by : {S C : Type 0} → Option (ReplicaState S C) → ℕ
held_by None = 0
held_by (Some replica) = places replica.log

-- the log of a member's node has at least as many places
pub record HoldsAt {S C : Type 0} (nodes : List (ReplicaState S C)) (members : List ℕ)
    (held at : ℕ) : Type 0 where
  pub member : ℕ
  pub is_member : In member members
  pub index : at ≡ member - 1
  pub replica : ReplicaState S C
  pub stands : slice_get nodes at ≡ Some replica
  pub long : held ≤ places replica.log

-- the log of a node, if the node exists, has fewer places
abbrev pub IsShort : {S C : Type 0} → Option (ReplicaState S C) → ℕ → Type 0
IsShort None held = Unit {0}
IsShort (Some replica) held = places replica.log < held

-- the world of a group with this record of places, this master, these replicas, messages and
-- effects that left
abbrev pub world_of : {S C O : Type 0} → List C → List (CountedReplica S C) → List (ℕ × Message C) →
    List (Effect C O) → CutGroupWorld S C O
world_of {S = S} {C = C} archive nodes sent left =
    record {
      nodes = map (λ (replica : CountedReplica S C). replica.state) nodes;
      sent = sent;
      left = outputs left;
      archive = archive;
    }

-- the moment that a group with its master shows
abbrev pub moment_of : {S C O : Type 0} → List C → MasterState → List (CountedReplica S C) →
    List (ℕ × Message C) → List (Effect C O) → Moment S C O
moment_of archive master nodes sent left =
    record { master = master; world = world_of archive nodes sent left }

-- no replica has counted more losses than its group, which counts each of them
abbrev pub CountsAtMost : {S C : Type 0} → ℕ → List (CountedReplica S C) → Type 0
CountsAtMost {S} {C} losses nodes =
    Each (λ (replica : CountedReplica S C). replica.losses ≤ losses) nodes

-- how many places the node of each number acknowledged in a ballot
pub record AcknowledgedIn : Type 0 where
  pub ballot : ℕ
  pub held : List ℕ

-- the counters agree with the messages
abbrev pub HasCounted : {C : Type 0} → List (ℕ × Message C) → AcknowledgedIn → Type 0
HasCounted sent told =
    (member : ℕ) → member < 16 →
    get_or told.held member 0 ≡ max_acknowledged member told.ballot sent

-- how a group came about, and what it counts: what was acknowledged in the active ballot, and in
-- the ballot that waits
pub record IsGroup {S C O : Type 0} (rules : Rules S C O) (moment : Moment S C O)
    (told next : AcknowledgedIn) : Type 0 where
  pub config : Config
  pub moments : List (Moment S C O)
  pub came : Moments rules config (moment ∷ moments)
  pub bounded : moment.master.greatest ≡ max_node
  pub active : told.ballot ≡ moment.master.active
  pub counted : HasCounted moment.world.sent told
  pub waits : (ballot : ℕ) (configuration : Config) →
      moment.master.waiting ≡ Some (ballot, configuration) → next.ballot ≡ ballot
  pub counted_next : HasCounted moment.world.sent next

-- the two smallest of a pair and one more number
abbrev pub next_least : ℕ → ℕ → ℕ → ℕ × ℕ
next_least least next held = if nat_lt held least then (held, least) else (least, min next held)

-- the second smallest of the numbers that members acknowledged: a primary acknowledges nothing by
-- messages, so that this is the smallest of the others
abbrev pub least_but_one : List ℕ → ℕ → ℕ → List ℕ → ℕ
least_but_one told least next [] = next
least_but_one told least next (member ∷ members) =
    let pair = next_least least next (get_or told member 0) in
    least_but_one told pair.0 pair.1 members

-- the ballot that a message asks the master to activate, if it does
abbrev pub asks_for : {C : Type 0} → Body C → Option ℕ
asks_for (Activate ballot) = Some ballot
asks_for _ = None

-- what the master answers to the node that asked it to activate a ballot
abbrev pub activation_answer : {C : Type 0} → Activation → ℕ → Body C
activation_answer activation.Activated ballot = Activated ballot
activation_answer activation.Superseded ballot = Superseded ballot
