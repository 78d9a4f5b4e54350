-- The master on record, and what its calls do.
use Rattle.std.specs.Prelude.{◌≡◌, ℕ, List, [], ◌∷◌, ◌++◌, Option, Some, None}
use mathlib.Core.List.{IsPrefix}
use Rattle.ballot_base.specs.StepOutcome.{master}
use Rattle.ballot_base.specs.declared.message.Body.{Body}
use Rattle.ballot_base.specs.declared.message.Body.TheVariants.{Activate}
use Rattle.broker_spec.specs.declared.command.Command.{Command}
use Rattle.agreement.specs.MasterState.{MasterState}
use Rattle.agreement.specs.cut_logs.Masters.{MasterOutcome, activated}
use Rattle.run_history.specs.declared.event.MasterAct.{MasterAct}
use Rattle.run_history.specs.declared.event.MasterAct.TheVariants.{Answers}
use Rattle.run_history.specs.declared.event.MasterEvent.{MasterEvent}
use Rattle.run_history.specs.declared.event.RunEvent.{RunEvent}
use Rattle.run_history.specs.declared.event.RunEvent.TheVariants.{ByMaster}
use Rattle.run_history.specs.Log.{events_by}
use Rattle.run_history.specs.Sending.{Addressed}

-- The master, and a prefix of the log: by that, and by each longer one with no more events of the
-- master, this is its state.
pub record MasterView : Type 0 where
  pub state : MasterState
  pub log : List RunEvent

-- the message of an outcome of the master, with its receiver
abbrev pub message_of : MasterOutcome Command → Addressed
message_of outcome =
    record {
      receiver = outcome.receiver;
      message = record { from = master; body = outcome.body };
    }

-- the event of the master that is this act with this outcome
abbrev pub event_with : MasterAct → MasterOutcome Command → MasterEvent
event_with act outcome =
    record {
      act = act;
      after = outcome.state;
      receiver = outcome.receiver;
      message = record { from = master; body = outcome.body };
    }

-- The master did this act: the log that it now knows ends with that event, with this outcome. What
-- it knew comes before, and no other event of the master since.
pub record MasterDid (old : MasterView) (act : MasterAct) (outcome : MasterOutcome Command)
    (new : MasterView) : Type 0 where
  pub earlier : List RunEvent
  pub begins : IsPrefix old.log earlier
  pub none_since : events_by master earlier ≡ events_by master old.log
  pub state : new.state ≡ outcome.state
  pub now : new.log ≡ earlier ++ ByMaster (event_with act outcome) ∷ []

-- The master answered a message from this node: one that asks for the activation of a ballot is
-- answered with an event, and any other is ignored.
abbrev pub Answered : MasterView → ℕ → Body Command → Option Addressed → MasterView → Type 0
Answered old from (Activate ballot) sent new =
    (sent ≡ Some (message_of (activated Command old.state ballot from old.state.waiting)))
    × MasterDid old (Answers from ballot)
    (activated Command old.state ballot from old.state.waiting) new
Answered old from body sent new = (sent ≡ None) × (new ≡ old)
