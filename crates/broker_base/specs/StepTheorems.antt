-- Theorems about the step: command by command it gives what the definitions say of the whole list.
use Rattle.std.specs.Prelude.{◌≡◌, ℕ, false, List, [], ◌∷◌, Some, None}
use Rattle.broker_spec.specs.Place.{Client, Place, Past, Limits}
use Rattle.broker_spec.specs.Sessions.{accepts}
use Rattle.broker_spec.specs.Retained.{retained_publications}
use Rattle.broker_spec.specs.Times.{window_at}
use Rattle.broker_spec.specs.Marks.{mark_of}
use Rattle.broker_spec.specs.Commands.{place_of, past_of, limits_from, usual_limits}
use Rattle.broker_spec.specs.Window.{wide_window}
use Rattle.broker_spec.specs.AnswersInOrder.{answers_of, answers_from}
use Rattle.broker_base.specs.ClientSession.{ClientSession, client_session}
use Rattle.broker_base.specs.SessionStep.{session_touched}
use Rattle.broker_base.specs.State.{empty_state, state_of, session_in}
use Rattle.broker_base.specs.Decisions.{mark_in}
use Rattle.broker_base.specs.Step.{touches, step, state_from, steps_from, IsWindow}
use Rattle.broker_spec.specs.declared.command.Command.{Command}

-- after one more place, whatever its mark, each client's session is the step of what it was before
abbrev pub StepsEachSession : Type 0
StepsEachSession =
    (limits : Limits) → (later : ℕ) → IsWindow limits later → (place : Place) → (past : Past) →
    (client : Client) →
    client_session limits (place ∷ past) client
    ≡ session_touched (window_at limits (place ∷ past)) place (retained_publications past) client
    (client_session limits past client)

-- a session that a place does not touch stays as it is
abbrev pub OthersStay : Type 0
OthersStay =
    (limits : Limits) → (later : ℕ) → IsWindow limits later →
    (place : Place) → (past : Past) → (client : Client) → (kept : ClientSession) →
    client_session limits past client ≡ Some kept → touches place client kept ≡ false →
    client_session limits (place ∷ past) client ≡ Some kept

-- a client that has no session gets one only by an accepted Connect
abbrev pub NoneBegins : Type 0
NoneBegins =
    (limits : Limits) → (place : Place) → (past : Past) → (client : Client) →
    client_session limits past client ≡ None → accepts place.command place.mark client ≡ None →
    client_session limits (place ∷ past) client ≡ None

-- the state has each client's session under its client
abbrev pub FindsEachSession : Type 0
FindsEachSession =
    (limits : Limits) → (past : Past) → (client : Client) →
    session_in client (state_of limits past).sessions ≡ client_session limits past client

-- the state decides the mark of a command as the past does
abbrev pub DecidesAsThePast : Type 0
DecidesAsThePast =
    (limits : Limits) → (past : Past) → (command : Command) →
    mark_in limits (state_of limits past) command ≡ mark_of limits past command

-- the step on the state of a past gives the state of the past with one more place, and the answers
-- at that place
abbrev pub StepStandsFor : Type 0
StepStandsFor =
    (limits : Limits) → (later : ℕ) → IsWindow limits later → (past : Past) → (command : Command) →
    step limits later (state_of limits past) command
    ≡ (state_of limits (place_of limits past command ∷ past), answers_of limits past command)

-- step by step, from the empty state, a list of commands gives the state of the list, and its
-- answers
abbrev pub ListStandsFor : Type 0
ListStandsFor =
    (limits : Limits) → (later : ℕ) → IsWindow limits later → (commands : List Command) →
    (state_from limits later (empty_state (limits.window [])) commands
    ≡ state_of limits (past_of limits commands))
    × (steps_from limits later (empty_state (limits.window [])) commands
    ≡ answers_from limits [] commands)

-- a list of commands gives this broker the state of the list, and its answers
abbrev pub UsualListStandsFor : Type 0
UsualListStandsFor =
    (commands : List Command) →
    (state_from usual_limits wide_window (empty_state wide_window) commands
    ≡ state_of usual_limits (past_of usual_limits commands))
    × (steps_from usual_limits wide_window (empty_state wide_window) commands
    ≡ answers_from usual_limits [] commands)

-- a list of commands gives a broker the state of the list, and its answers, whose window is this
-- one at first and the wide one from the first Start on
abbrev pub GrowingListStandsFor : Type 0
GrowingListStandsFor =
    (first : ℕ) → (commands : List Command) →
    (state_from usual_limits wide_window (empty_state first) commands
    ≡ state_of (limits_from first) (past_of (limits_from first) commands))
    × (steps_from usual_limits wide_window (empty_state first) commands
    ≡ answers_from (limits_from first) [] commands)
