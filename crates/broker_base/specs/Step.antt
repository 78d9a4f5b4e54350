-- The step of a broker: the state and the answers after one more command (MQTT 3.1.4, 3.3.1.3, 4.1,
-- 4.3, 4.4).
use Rattle.std.specs.Prelude.{◌≡◌, ℕ, Bool, false, ◌||◌, if◌then◌else◌, List, [], ◌∷◌, Option}
use Rattle.std.specs.Prelude.{Some, is_some}
use Rattle.packet.specs.declared.packet.Packet.TheVariants as packets
use Rattle.retained.specs.Retained.{RetainedTopics}
use Rattle.broker_spec.specs.Place.{Client, same_client, Mark, Place, Past, Limits}
use Rattle.broker_spec.specs.Sessions.{ends_any}
use Rattle.session_base.specs.Subscriptions.{GrantedSubscription, granted_qos}
use Rattle.broker_spec.specs.Retained.{retained_by}
use Rattle.broker_spec.specs.Commands.{is_start}
use Rattle.broker_base.specs.ClientSession.{ClientSession}
use Rattle.broker_base.specs.SessionStep.{session_touched, session_connected}
use Rattle.broker_base.specs.State.{Sessions, State, keyed, session_in, put_session}
use Rattle.broker_base.specs.Decisions.{place_in}
use Rattle.broker_base.specs.StepAnswers.{answers_by_state}
use Rattle.broker_spec.specs.declared.command.Command.{Command}
use Rattle.broker_spec.specs.declared.command.Command.TheVariants as commands
use Rattle.broker_spec.specs.declared.command.Output.{Output}

-- Whether a command concerns the client's session with these subscriptions, apart from the end of
-- its connection: the client sent it, or it is a taken publication that matches one of them.
abbrev pub is_about : Command → Mark → Client → List GrantedSubscription → Bool
is_about (commands.Connect connection sender clean) Mark.Accepted client subscriptions =
    same_client sender client
is_about (commands.Packet connection (packets.Publish publish)) (Mark.Taken sender)
    client subscriptions =
    same_client sender client || is_some (granted_qos publish.topic subscriptions)
is_about command (Mark.Granted sender which) client subscriptions = same_client sender client
is_about command (Mark.Handled sender) client subscriptions = same_client sender client
is_about _ _ client subscriptions = false

-- whether a place touches a client's session; every other session is unchanged
abbrev pub touches : Place → Client → ClientSession → Bool
touches place client kept =
    ends_any place client kept.connection
    || is_about place.command place.mark client kept.state.subscriptions

-- a session after a place, if it still exists
abbrev pub session_after : ℕ → Place → RetainedTopics → Client → ClientSession →
    Option ClientSession
session_after window place content client kept =
    if touches place client kept then session_touched window place content client (Some kept)
    else Some kept

-- the sessions after a place, of those that were there before
abbrev pub sessions_left : ℕ → Place → RetainedTopics → Sessions → Sessions
sessions_left window place content (row ∷ rows) =
    keyed row.0 (session_after window place content row.0 row.1)
    (sessions_left window place content rows)
sessions_left window place content [] = []

-- the sessions after a place, that of the client of an accepted Connect included
abbrev pub sessions_with : ℕ → Place → RetainedTopics → Sessions → Command → Mark → Sessions
sessions_with window place content rows (commands.Connect connection client clean) Mark.Accepted =
    put_session client (session_connected window (connection, clean) (session_in client rows))
    (sessions_left window place content rows)
sessions_with window place content rows command mark = sessions_left window place content rows

-- the window after a command: from a Start on it is this one
abbrev pub window_after : ℕ → Command → ℕ → ℕ
window_after later command window = if is_start command then later else window

-- the state and the answers after a command that has this mark
abbrev pub step_at : ℕ → Place → State → State × List Output
step_at window place state = (
  record {
    window = window;
    sessions = sessions_with window place state.retained state.sessions place.command place.mark;
    retained = retained_by place.command place.mark state.retained;
  },
  answers_by_state window place state place.command place.mark,
)

-- one more command; from a Start on the window is `later`
abbrev pub step : Limits → ℕ → State → Command → State × List Output
step limits later state command =
    step_at (window_after later command state.window) (place_in limits state command) state

-- the state after more commands, oldest first
abbrev pub state_from : Limits → ℕ → State → List Command → State
state_from limits later state (command ∷ commands) =
    state_from limits later (step limits later state command).0 commands
state_from limits later state [] = state

-- the answers to more commands, oldest first, place by place
abbrev pub steps_from : Limits → ℕ → State → List Command → List (List Output)
steps_from limits later state (command ∷ commands) =
    (step limits later state command).1
    ∷ steps_from limits later (step limits later state command).0 commands
steps_from limits later state [] = []

-- the window of these limits changes only at a Start, and is `later` from the first Start on
abbrev pub IsWindow : Limits → ℕ → Type 0
IsWindow limits later =
    (place : Place) → (past : Past)
    → limits.window (place ∷ past) ≡ window_after later place.command (limits.window past)
