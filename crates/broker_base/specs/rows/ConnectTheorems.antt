-- The step of a Connect on a connection that is no client's current one, whose client's session
-- begins or is resumed while no other is touched; and the step of a Start (MQTT 3.1.2.4, 3.1.4,
-- 3.2.2, 4.4).
use Rattle.std.specs.Prelude.{◌≡◌, ℕ, Bool, true, false, ◌||◌, nat_lt, length, [], ◌∷◌, ◌++◌, map}
use Rattle.std.specs.Prelude.{Some, None, is_some, option_map}
use Rattle.std.specs.BTreeMap.{insert_entry}
use Rattle.session_base.specs.EntryPackets.{fill_sends, resend}
use Rattle.broker_spec.specs.Connection.{ConnectionName}
use Rattle.broker_spec.specs.Place.{Client, by_bytes, Limits}
use Rattle.broker_spec.specs.Sessions.{begins_session}
use Rattle.broker_spec.specs.Answers.{close_outputs, welcome, turned_away}
use Rattle.broker_base.specs.ClientSession.{ClientSession}
use Rattle.broker_base.specs.SessionStep.{session_anew, session_resumed}
use Rattle.broker_base.specs.State.{Sessions, State, keyed, session_in, owner_in}
use Rattle.broker_base.specs.StateTheorems.{IsSound, AreByClient}
use Rattle.broker_base.specs.StepAnswers.{connection_of}
use Rattle.broker_base.specs.Step.{step}
use Rattle.broker_spec.specs.declared.command.Command.TheVariants as commands
use Rattle.broker_spec.specs.declared.command.Output.TheVariants.{Send, Close}
use Rattle.broker_base.specs.rows.Touched.{written}
use Rattle.broker_base.specs.rows.Served.{with_session, left_off}

-- whether the client has a session, or the limit of sessions allows one more
abbrev pub may_have_session : Limits → State → Client → Bool
may_have_session limits state client =
    is_some (session_in client state.sessions) || nat_lt (length state.sessions) limits.sessions

-- whether an accepted Connect with this flag begins a session of the client
abbrev pub begins_in : State → Client → Bool → Bool
begins_in state client clean =
    begins_session clean
    (option_map (λ (kept : ClientSession). kept.clean) (session_in client state.sessions))

-- A Connect that is clean, that finds no session, or that finds a clean one, begins an empty
-- session; the connection that the client had is closed (MQTT 3.1.2.4, 3.1.4).
abbrev pub BeginningStep : Type 0
BeginningStep =
    (limits : Limits) → (later : ℕ) → (state : State) → (connection : ConnectionName) →
    (client : Client) → (clean : Bool) → IsSound state →
    owner_in connection state.sessions ≡ None → may_have_session limits state client ≡ true →
    begins_in state client clean ≡ true →
    step limits later state (commands.Connect connection client clean)
    ≡ (
      record {
        window = state.window;
        sessions = insert_entry by_bytes state.sessions client (session_anew (connection, clean));
        retained = state.retained;
      },
      close_outputs (connection_of (session_in client state.sessions))
          ++ welcome connection false ∷ [],
    )

-- Any other resumes the session that it finds: what is in flight is retransmitted in order, and
-- then what may start starts (MQTT 4.4).
abbrev pub ResumingStep : Type 0
ResumingStep =
    (limits : Limits) → (later : ℕ) → (state : State) → (connection : ConnectionName) →
    (client : Client) → (kept : ClientSession) → IsSound state →
    owner_in connection state.sessions ≡ None → session_in client state.sessions ≡ Some kept →
    kept.clean ≡ false →
    step limits later state (commands.Connect connection client false)
    ≡ (
      with_session client (Some (session_resumed state.window (connection, false) kept)) state,
      close_outputs kept.connection
          ++ welcome connection true
          ∷ map (Send connection)
          (resend kept.state.queue.in_flight
          ++ fill_sends state.window kept.state.queue.in_flight kept.state.queue.waiting),
    )

-- one that would exceed the limit of sessions is refused (MQTT 3.2.2.3)
abbrev pub FullStep : Type 0
FullStep =
    (limits : Limits) → (later : ℕ) → (state : State) → (connection : ConnectionName) →
    (client : Client) → (clean : Bool) →
    owner_in connection state.sessions ≡ None → may_have_session limits state client ≡ false →
    step limits later state (commands.Connect connection client clean)
    ≡ (state, turned_away connection ∷ Close connection ∷ [])

-- if the client has a session, inserting one is writing it
abbrev pub InsertionWrites : Type 0
InsertionWrites =
    (client : Client) → (old new : ClientSession) → (sessions : Sessions) → AreByClient sessions →
    session_in client sessions ≡ Some old →
    insert_entry by_bytes sessions client new ≡ written client (Some new) sessions

-- ---- a Start

-- each session without its connection; the clean ones end
abbrev pub all_left_off : Sessions → Sessions
all_left_off (row ∷ rows) = keyed row.0 (left_off row.1) (all_left_off rows)
all_left_off [] = []

-- a new ballot ends every connection, and the window is the later one from then on
abbrev pub StartStep : Type 0
StartStep =
    (limits : Limits) → (later : ℕ) → (state : State) → (ballot : ℕ) → IsSound state →
    step limits later state (commands.Start ballot)
    ≡ (
      record { window = later; sessions = all_left_off state.sessions; retained = state.retained },
      [],
    )
