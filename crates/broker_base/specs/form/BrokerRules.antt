-- The rules of the broker's machine.
use Rattle.std.specs.Prelude.{List}
use Rattle.machine.specs.Machine.{Rules}
use Rattle.broker_spec.specs.Commands.{usual_limits}
use Rattle.broker_spec.specs.Window.{wide_window}
use Rattle.broker_spec.specs.declared.command.Command.{Command}
use Rattle.broker_spec.specs.declared.command.Command.TheVariants.{Start}
use Rattle.broker_spec.specs.declared.command.Output.{Output}
use Rattle.broker_base.specs.State.{State, empty_state}
use Rattle.broker_base.specs.Step.{step}
use Rattle.broker_base.specs.form.Form.{thawed}
use Rattle.broker_base.specs.form.Bytes.{frozen}

-- the state after a command, with the limits of this broker
abbrev pub after : State → Command → State
after state command = (step usual_limits wide_window state command).0

-- the answers to a command, with the limits of this broker
abbrev pub answers : State → Command → List Output
answers state command = (step usual_limits wide_window state command).1

-- the rules of the broker's machine: it begins empty with the wide window, applies one step for
-- each command, and is frozen to form 2
abbrev pub broker_rules : Rules State Command Output
broker_rules =
    record {
      opening = empty_state wide_window;
      start_of = Start;
      after = after;
      gives = answers;
      frozen = frozen;
      thawed = thawed;
    }
