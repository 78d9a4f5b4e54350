-- Messages that come to their receivers one after another, exactly, each named by its number, and
-- the numbers of those that lead a new ballot to its start.
use Rattle.lists.specs.Lists.{In}
use Rattle.std.specs.Prelude.{ℕ, zero, suc, ◌+◌, ◌≡◌, false, List, [], ◌∷◌, ◌++◌, slice_get, Some}
use Rattle.machine.specs.Machine.{Rules}
use Rattle.agreement.specs.whole_logs.Messages.Body.{Activate}
use Rattle.ballot_base.specs.declared.config.Config.{Config}
use Rattle.agreement.specs.whole_logs.Messages.{Message}
use Rattle.agreement.specs.whole_logs.Protocol.{received}
use Rattle.agreement.specs.whole_logs.Replica.{ReplicaState}
use Rattle.agreement.specs.whole_logs.StepOutcome.{Outcome}
use Rattle.agreement.specs.MasterState.{activated, assigned, assigning}
use Rattle.agreement.specs.Moments.{Moment}
use Rattle.agreement.specs.World.{moved, outputs}
use Rattle.agreement.specs.Steps.{sends_from_master}

-- the moment after a step of the node at this index
abbrev pub after_outcome : {S C O : Type 0} → ℕ → Outcome S C O → Moment S C O → Moment S C O
after_outcome index outcome moment =
    record {
      master = moment.master;
      world = moved moment.world index outcome.state outcome.effects;
    }

-- the moment after an Activate that the master receives
abbrev pub after_activate : {S C O : Type 0} → ℕ → ℕ → Moment S C O → Moment S C O
after_activate {C = C} from ballot moment =
    record {
      master = (activated C moment.master ballot from moment.master.waiting).state;
      world = sends_from_master moment.world
          (activated C moment.master ballot from moment.master.waiting);
    }

-- the moment after an Assign that is not refused
abbrev pub assigned_moment : {S C O : Type 0} → Config → Moment S C O → Moment S C O
assigned_moment {C = C} config moment =
    record {
      master = assigning moment.master config;
      world = sends_from_master moment.world (assigned C moment.master config);
    }

-- messages come, one after another, to nodes that run, give no outputs then, and have joined the
-- ballot after them, or to the master
pub data Delivered {S C O : Type 0} (rules : Rules S C O) (ballot : ℕ) :
    Moment S C O → List ℕ → Moment S C O → Type 0 where
  -- no message is left
  all_came : {moment : Moment S C O} → Delivered rules ballot moment [] moment
  -- the next one comes to a node
  to_node : {moment last : Moment S C O} {ks : List ℕ} (number index : ℕ)
      (replica : ReplicaState S C) (message : Message C) →
      slice_get moment.world.sent number ≡ Some (index + 1, message) →
      slice_get moment.world.nodes index ≡ Some replica → replica.stopped ≡ false →
      outputs (received rules replica message.from message.body).effects ≡ [] →
      (received rules replica message.from message.body).state.joined ≡ ballot →
      Delivered rules ballot
      (after_outcome index (received rules replica message.from message.body) moment) ks last →
      Delivered rules ballot moment (number ∷ ks) last
  -- it is an Activate, and comes to the master
  to_master : {moment last : Moment S C O} {ks : List ℕ} (number from asked : ℕ) →
      slice_get moment.world.sent number ≡ Some (0, record { from = from; body = Activate asked }) →
      Delivered rules ballot (after_activate from asked moment) ks last →
      Delivered rules ballot moment (number ∷ ks) last

-- the node of this number exists, and the property holds for it
pub record NodeIs {S C : Type 0} (P : ℕ → ReplicaState S C → Type 0)
    (nodes : List (ReplicaState S C)) (node : ℕ) : Type 0 where
  pub index : ℕ
  pub number : node ≡ index + 1
  pub replica : ReplicaState S C
  pub stands : slice_get nodes index ≡ Some replica
  pub is : P node replica

-- no number comes twice
abbrev pub NumbersAreApart : List ℕ → Type 0
NumbersAreApart [] = Unit {0}
NumbersAreApart (number ∷ numbers) = (In number numbers → ⊥) × NumbersAreApart numbers

-- as many numbers as the second says, each one more than the one before
abbrev pub numbers_from : ℕ → ℕ → List ℕ
numbers_from first zero = []
numbers_from first (suc count) = first ∷ numbers_from (first + 1) count

-- a message to each of some others, and their answers
abbrev pub asked_and_answered : ℕ → ℕ → List ℕ
asked_and_answered first others = numbers_from first others ++ numbers_from (first + others) others

-- the number of the Activate, by the count of messages sent before, the count of members of the
-- active ballot, and that of the members of the new one besides its primary
abbrev pub activate_number : ℕ → ℕ → ℕ → ℕ
activate_number sent members others = sent + members + 2 + (others + others)

-- the messages of a recovery, if the member at this index of the active ballot is asked for its
-- log: NewBallot, Join, State; Install and Installed; Activate, Activated; Append and Held
abbrev pub recovery_messages : ℕ → ℕ → ℕ → ℕ → List ℕ
recovery_messages sent members index others =
    sent ∷ (sent + 1 + index) ∷ (sent + 1 + members)
    ∷ (asked_and_answered (sent + members + 2) others
    ++ activate_number sent members others ∷ (activate_number sent members others + 1)
    ∷ asked_and_answered (activate_number sent members others + 2) others)
