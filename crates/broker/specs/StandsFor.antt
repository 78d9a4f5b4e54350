-- Which list of commands a broker's state stands for.
use Rattle.std.specs.Prelude.{◌≡◌, ℕ, List, [], ◌∷◌, ◌++◌, Some}
use Rattle.broker_spec.specs.AnswersInOrder.{answers_of}
use Rattle.broker_spec.specs.Commands.{past_of, limits_from, usual_limits}
use Rattle.broker_spec.specs.Window.{narrow_window, wide_window}
use Rattle.broker_spec.specs.declared.command.Command.{Command}
use Rattle.broker_base.specs.State.{State, state_of, empty_state}
use Rattle.broker_base.specs.form.BrokerRules.{after, answers}
use Rattle.broker_base.specs.form.Form.{thawed}
use Rattle.broker_base.specs.form.Bytes.{frozen_before}
use Rattle.broker_base.specs.form.FormTheorems.{IsUsualState}

-- the state is the one that this list of commands means, with this window at first
abbrev pub StateStandsFor : ℕ → State → List Command → Type 0
StateStandsFor first state commands =
    state ≡ state_of (limits_from first) (past_of (limits_from first) commands)

-- the state of a new broker stands for no command, with the wide window
abbrev pub BeginsEmpty : Type 0
BeginsEmpty = StateStandsFor wide_window (empty_state wide_window) []

-- after one more command the state stands for the list with that command, and its answers are those
-- that the list means
abbrev pub GoesOnStanding : Type 0
GoesOnStanding =
    (first : ℕ) → (state : State) → (commands : List Command) → (command : Command) →
    StateStandsFor first state commands →
    StateStandsFor first (after state command) (commands ++ command ∷ [])
    × (answers state command
    ≡ answers_of (limits_from first) (past_of (limits_from first) commands) command)

-- what a state with the narrow window was frozen to in form 1, before any Start, thaws to a state
-- that stands for the same list with the narrow window at first
abbrev pub GoesOnFromFormOne : Type 0
GoesOnFromFormOne =
    (state : State) → (commands : List Command) → IsUsualState state →
    state.window ≡ narrow_window →
    StateStandsFor narrow_window state commands →
    (read : State)
    × (thawed (frozen_before state) ≡ Some read)
    × StateStandsFor narrow_window read commands

-- with the wide window at first, every window is wide
abbrev pub UsualIsWide : Type 0
UsualIsWide = limits_from wide_window ≡ usual_limits
