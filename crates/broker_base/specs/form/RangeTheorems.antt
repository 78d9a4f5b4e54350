-- Theorems: a command of the log keeps a state in its ranges, and every packet that the broker
-- sends can be encoded.
use Rattle.std.specs.Prelude.{ℕ, ◌<◌, ◌^◌, List}
use Rattle.std.specs.List.{AllByRecursion}
use Rattle.packet.specs.Spelling.{IsPacket}
use Rattle.broker_spec.specs.Place.{Limits}
use Rattle.broker_spec.specs.Commands.{usual_limits}
use Rattle.broker_spec.specs.Window.{wide_window}
use Rattle.broker_spec.specs.Logged.{IsBrokerCommand}
use Rattle.broker_spec.specs.declared.command.Command.{Command}
use Rattle.broker_spec.specs.declared.command.Output.{Output}
use Rattle.broker_spec.specs.declared.command.Output.TheVariants.{Send, Close}
use Rattle.broker_base.specs.State.{State, empty_state}
use Rattle.broker_base.specs.Step.{step, state_from, steps_from}
use Rattle.broker_base.specs.form.InRange.{IsBrokerState}

-- a step keeps a state in its ranges, if a queue holds fewer entries than there are identifiers
abbrev pub StaysInRange : Type 0
StaysInRange =
    (limits : Limits) → (later : ℕ) → (state : State) → (command : Command) →
    limits.entries < 2 ^ 16 → IsBrokerCommand command →
    IsBrokerState limits state → IsBrokerState limits (step limits later state command).0

-- a packet that is sent has a spelling
abbrev pub CanBeSpelled : Output → Type 0
CanBeSpelled (Send connection packet) = IsPacket packet
CanBeSpelled (Close connection) = Unit {0}

-- every packet in the answers to a command has a spelling
abbrev pub AnswersAreSpelled : Type 0
AnswersAreSpelled =
    (limits : Limits) → (later : ℕ) → (state : State) → (command : Command) →
    limits.entries < 2 ^ 16 → IsBrokerCommand command →
    IsBrokerState limits state → AllByRecursion CanBeSpelled (step limits later state command).1

-- the state after every list of commands of a log is in range, with this broker's limits
abbrev pub ListsAreInRange : Type 0
ListsAreInRange =
    (window : ℕ) → (commands : List Command) → AllByRecursion IsBrokerCommand commands →
    IsBrokerState usual_limits (state_from usual_limits wide_window (empty_state window) commands)
    × AllByRecursion (AllByRecursion CanBeSpelled)
    (steps_from usual_limits wide_window (empty_state window) commands)
