-- What a call on links that bring messages does.
use Rattle.std.specs.Prelude.{◌≡◌, ℕ, List, [], ◌∷◌, ◌++◌}
use mathlib.Core.List.{IsPrefix}
use Rattle.ballot_base.specs.StepOutcome.{master}
use Rattle.ballot_base.specs.declared.message.Message.{Message}
use Rattle.broker_spec.specs.declared.command.Command.{Command}
use Rattle.run_history.specs.declared.event.RunEvent.{RunEvent}
use Rattle.run_history.specs.declared.event.RunEvent.TheVariants.{ByLink}
use Rattle.run_history.specs.Log.{events_by}

-- A link brought this message for the node of this number: the log that is now known ends with that
-- event. What was known comes before, and links brought nothing else since.
pub record HasBrought (old : List RunEvent) (receiver : ℕ) (message : Message Command)
    (new : List RunEvent) : Type 0 where
  pub earlier : List RunEvent
  pub begins : IsPrefix old earlier
  pub none_since : events_by master earlier ≡ events_by master old
  pub now : new ≡ earlier ++ ByLink (record { receiver = receiver; message = message }) ∷ []
