-- The moments of a group since it opened, and what its members acknowledged in each ballot.
use Rattle.std.specs.Prelude.{ℕ, true, false, ◌+◌, ◌≤◌, ◌≡◌, ◌⊎◌, List, [], ◌∷◌, length, slice_get, take, Some}
use Rattle.lists.specs.Lists.{In, IsPrefixOf}
use Rattle.machine.specs.Machine.{Rules}
use Rattle.agreement.specs.whole_logs.Messages.Body.{Held, Installed}
use Rattle.agreement.specs.whole_logs.Application.{applied_to}
use Rattle.ballot_base.specs.declared.config.Config.{Config}
use Rattle.agreement.specs.whole_logs.Replica.{ReplicaState}
use Rattle.ballot_base.specs.Replica.{is_active}
use Rattle.agreement.specs.Steps.{MayHappen}
use Rattle.agreement.specs.MasterState.{MasterState, opening_master}
use Rattle.agreement.specs.World.{GroupWorld, can_open, moved, opening_world}

-- a moment of a group: the master and the world
pub record Moment (S C O : Type 0) : Type 0 where
  pub master : MasterState
  pub world : GroupWorld S C O

-- the moment at which a group opens
abbrev pub opening_moment : {S C O : Type 0} → Rules S C O → ℕ → ℕ → Config → Moment S C O
opening_moment rules greatest nodes config =
    record { master = opening_master greatest config; world = opening_world rules nodes config }

-- A node that is no active primary applies places of its log that some node had applied at an
-- earlier moment, without an output. At that moment the other node was in no higher ballot than
-- this node is in now. Taking over a snapshot in place of the commands is such a step.
pub record Learns {S C O : Type 0} (rules : Rules S C O) (moments : List (Moment S C O))
    (moment next : Moment S C O) : Type 0 where
  pub node : ℕ
  pub replica : ReplicaState S C
  pub stands : slice_get moment.world.nodes node ≡ Some replica
  pub runs : replica.stopped ≡ false
  pub passive : is_active replica.role ≡ false
  -- it applies its log up to here
  pub places : ℕ
  pub more : replica.committed ≤ places
  pub within : places ≤ length replica.log
  -- as the other had applied it
  pub earlier : Moment S C O
  pub was : In earlier moments
  pub other : ℕ
  pub teacher : ReplicaState S C
  pub stood : slice_get earlier.world.nodes other ≡ Some teacher
  pub joined : teacher.joined ≤ replica.joined
  pub applied : places ≤ teacher.committed
  pub same : take places teacher.log ≡ take places replica.log
  pub becomes : next
      ≡ record moment { world = moved moment.world node (applied_to rules replica places) [] }

-- the moments that were, the present one first -- history: no field keeps it
pub data Moments {S C O : Type 0} (rules : Rules S C O) (config : Config) :
    List (Moment S C O) → Type 0 where
  -- the group opens with a configuration; its nodes have numbers up to any greatest one
  began : {moment : Moment S C O} (greatest nodes : ℕ) → can_open greatest nodes config ≡ true →
      moment ≡ opening_moment rules greatest nodes config → Moments rules config (moment ∷ [])
  -- one more step
  went_on : {moment next : Moment S C O} {moments : List (Moment S C O)} →
      Moments rules config (moment ∷ moments) →
      MayHappen rules moment.master moment.world next.master next.world →
      Moments rules config (next ∷ moment ∷ moments)
  -- a node learns something without a step of its own
  learned : {moment next : Moment S C O} {moments : List (Moment S C O)} →
      Moments rules config (moment ∷ moments) → Learns rules (moment ∷ moments) moment next →
      Moments rules config (next ∷ moment ∷ moments)

-- the configuration of a ballot: that of the opening for ballot 1, otherwise the one with which the
-- master assigned the ballot
pub data HasConfig {S C O : Type 0} (config : Config) (moments : List (Moment S C O)) (ballot : ℕ)
    (configuration : Config) : Type 0 where
  -- ballot 1 has the first configuration
  opened_with : ballot ≡ 1 → configuration ≡ config → HasConfig config moments ballot configuration
  -- the master gave the ballot to this configuration
  was_assigned : (moment : Moment S C O) → In moment moments →
      moment.master.waiting ≡ Some (ballot, configuration) →
      HasConfig config moments ballot configuration

-- a ballot was the active one
abbrev pub WasActive : {S C O : Type 0} → List (Moment S C O) → ℕ → Type 0
WasActive {S} {C} {O} moments ballot =
    (moment : Moment S C O) × In moment moments × (moment.master.active ≡ ballot)

-- a member acknowledged a length in a ballot
abbrev pub AcknowledgedLength : {S C O : Type 0} → GroupWorld S C O → ℕ → ℕ → ℕ → Type 0
AcknowledgedLength world member ballot held =
    (receiver : ℕ)
    × (In (receiver, record { from = member; body = Held ballot held }) world.sent
    ⊎ In (receiver, record { from = member; body = Installed ballot held }) world.sent)

-- The node at this index has acknowledged a list in a ballot: the primary by having it as its log
-- there, another member by a message with its length, from a log of which it is a prefix. While a
-- node is in one ballot its log only grows, so it had that prefix when it sent the message.
pub data HasAcknowledged {S C O : Type 0} (config : Config) (moments : List (Moment S C O))
    (ballot node : ℕ) (list : List C) : Type 0 where
  -- the primary holds the list as its log
  told_as_log : (moment : Moment S C O) (replica : ReplicaState S C) (configuration : Config) →
      In moment moments → slice_get moment.world.nodes node ≡ Some replica →
      replica.held_in ≡ ballot → HasConfig config moments ballot configuration →
      configuration.primary ≡ node + 1 → replica.log ≡ list →
      HasAcknowledged config moments ballot node list
  -- a member acknowledged a length of its log
  told_by_message : (moment : Moment S C O) (replica : ReplicaState S C) → In moment moments →
      slice_get moment.world.nodes node ≡ Some replica → replica.held_in ≡ ballot →
      AcknowledgedLength moment.world (node + 1) ballot (length list) →
      IsPrefixOf list replica.log → HasAcknowledged config moments ballot node list

-- each member of a ballot has acknowledged the list, or a list of which it is a prefix; a member
-- that acknowledged nothing has not acknowledged the empty list
abbrev pub IsChosen : {S C O : Type 0} → Config → List (Moment S C O) → ℕ → List C → Type 0
IsChosen {S} {C} {O} config moments ballot list =
    (configuration : Config) × HasConfig config moments ballot configuration
    × ((node : ℕ) → In (node + 1) configuration.members →
    (told : List C) × HasAcknowledged config moments ballot node told × IsPrefixOf list told)

-- the agreed list: the longest that is chosen in a ballot that was active, or empty if none is
pub record IsAgreed {S C O : Type 0} (config : Config) (moments : List (Moment S C O))
    (list : List C) : Type 0 where
  pub chosen : (list ≡ [])
      ⊎ ((ballot : ℕ) × WasActive moments ballot × IsChosen config moments ballot list)
  pub longest : (ballot : ℕ) (other : List C) → WasActive moments ballot →
      IsChosen config moments ballot other → IsPrefixOf other list
