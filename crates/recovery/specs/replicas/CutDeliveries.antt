-- Messages that come to their receivers one after another, exactly, each named by its number, if
-- nodes cut their logs. The numbers of the messages are in `Deliveries` (`recovery_messages`).
use Rattle.std.specs.Prelude.{ℕ, ◌+◌, ◌≡◌, false, List, [], ◌∷◌, slice_get, Some}
use Rattle.machine.specs.Machine.{Rules}
use Rattle.agreement.specs.MasterState.{assigning}
use Rattle.ballot_base.specs.declared.config.Config.{Config}
use Rattle.ballot_base.specs.declared.message.Body.TheVariants.{Activate}
use Rattle.ballot_base.specs.declared.message.Message.{Message}
use Rattle.ballot_base.specs.Protocol.{received}
use Rattle.ballot_base.specs.Replica.{ReplicaState}
use Rattle.ballot_base.specs.StepOutcome.{Outcome}
use Rattle.agreement.specs.cut_logs.Masters.{activated, assigned}
use Rattle.agreement.specs.cut_logs.Moments.{Moment}
use Rattle.agreement.specs.cut_logs.Steps.{sends_from_master}
use Rattle.agreement.specs.cut_logs.World.{moved, outputs}

-- the moment after a step of the node at this index
abbrev pub after_outcome : {S C O : Type 0} → ℕ → Outcome S C O → Moment S C O → Moment S C O
after_outcome index outcome moment =
    record {
      master = moment.master;
      world = moved moment.world index outcome.state outcome.effects;
    }

-- the moment after an Activate that the master receives
abbrev pub after_activate : {S C O : Type 0} → ℕ → ℕ → Moment S C O → Moment S C O
after_activate {C = C} from ballot moment =
    record {
      master = (activated C moment.master ballot from moment.master.waiting).state;
      world = sends_from_master moment.world
          (activated C moment.master ballot from moment.master.waiting);
    }

-- the moment after an Assign that is not refused
abbrev pub assigned_moment : {S C O : Type 0} → Config → Moment S C O → Moment S C O
assigned_moment {C = C} config moment =
    record {
      master = assigning moment.master config;
      world = sends_from_master moment.world (assigned C moment.master config);
    }

-- messages come, one after another, to nodes that run, give no outputs then, and have joined the
-- ballot after them, or to the master
pub data Delivered {S C O : Type 0} (rules : Rules S C O) (ballot : ℕ) :
    Moment S C O → List ℕ → Moment S C O → Type 0 where
  -- no message is left
  all_came : {moment : Moment S C O} → Delivered rules ballot moment [] moment
  -- the next one comes to a node
  to_node : {moment last : Moment S C O} {ks : List ℕ} (number index : ℕ)
      (replica : ReplicaState S C) (message : Message C) →
      slice_get moment.world.sent number ≡ Some (index + 1, message) →
      slice_get moment.world.nodes index ≡ Some replica → replica.stopped ≡ false →
      outputs (received rules replica message.from message.body).effects ≡ [] →
      (received rules replica message.from message.body).state.joined ≡ ballot →
      Delivered rules ballot
      (after_outcome index (received rules replica message.from message.body) moment) ks last →
      Delivered rules ballot moment (number ∷ ks) last
  -- it is an Activate, and comes to the master
  to_master : {moment last : Moment S C O} {ks : List ℕ} (number from asked : ℕ) →
      slice_get moment.world.sent number ≡ Some (0, record { from = from; body = Activate asked }) →
      Delivered rules ballot (after_activate from asked moment) ks last →
      Delivered rules ballot moment (number ∷ ks) last
