-- The step of a Connect on a connection without a client.
use Rattle.std.proofs.Common.{◌≡◌, ℕ, Bool, true, false, ◌||◌, if◌then◌else◌, List, [], ◌∷◌, ◌++◌, Option, Some, None, refl, ap, ap₂, ◌∙◌}
use Rattle.std.specs.Prelude.{not, map, option_map, is_some, nat_lt, length}
use Rattle.std.specs.BTreeMap.{insert_entry}
use Rattle.std.specs.declared.cmp.Ordering.{Ordering}
use Rattle.std.specs.declared.cmp.Ordering.TheVariants.{Less, Equal, Greater}
use Rattle.std.specs.List.Sorted.{IsStrictlySortedBy}
use Rattle.std.specs.Ordering.{is_eq, match_ordering}
use Rattle.session_base.specs.EntryPackets.{fill_sends, resend}
use Rattle.broker_spec.specs.Connection.{ConnectionName}
use Rattle.broker_spec.specs.Place.{Client, by_bytes, Mark, Limits}
use Rattle.broker_spec.specs.Sessions.{begins_session}
use Rattle.broker_spec.specs.Answers.{close_outputs, welcome}
use Rattle.broker_base.specs.ClientSession.{ClientSession}
use Rattle.broker_base.specs.SessionStep.{session_anew, session_resumed, session_connected}
use Rattle.broker_base.specs.State.{Sessions, State, session_in, owner_in}
use Rattle.broker_base.specs.StepAnswers.{connection_of, connect_answers_in, answers_by_state}
use Rattle.broker_base.specs.Decisions.{connect_mark_in, mark_in}
use Rattle.broker_base.specs.Step.{step_at, step}
use Rattle.broker_base.specs.StateTheorems.{IsSound}
use Rattle.broker_spec.specs.declared.command.Command.TheVariants as commands
use Rattle.broker_spec.specs.declared.command.Output.{Output}
use Rattle.broker_spec.specs.declared.command.Output.TheVariants.{Send}
use Rattle.broker_base.proofs.SessionsStayByClient.{ComesBefore, before_more}
use Rattle.broker_base.specs.rows.Touched.{written, is_accepted, is_taken}
use Rattle.broker_base.specs.rows.ConnectTheorems.{may_have_session, BeginningStep, ResumingStep, FullStep, InsertionWrites}
use Rattle.broker_base.proofs.of_rows.CommandOfNobody.{nobody_owns, nobody_stays}
use Rattle.broker_base.proofs.of_rows.NewConnection.{put_left}
use Rattle.broker_base.proofs.of_rows.ServedStep.{retained_same}

-- a client before all sessions has none
pub no_session : (c : Client) (rows : Sessions) → ComesBefore c rows → session_in c rows ≡ None
no_session c [] before = refl
no_session c (row ∷ rows) before = ap (λ o. if is_eq o then Some row.1 else session_in c rows) before.0 ∙ no_session c rows before.1

-- the insertion of a session that there is writes it
pub insertion_writes : InsertionWrites
unfolding IsStrictlySortedBy
insertion_writes c old new [] by_client found = absurd (cc)
insertion_writes c old new (row ∷ rows) by_client found = by (by_bytes c row.0) refl found (λ e. insertion_writes c old new rows by_client.1 e)
  where
    by : (o : Ordering) → by_bytes c row.0 ≡ o → (if is_eq o then Some row.1 else session_in c rows) ≡ Some old →
        (session_in c rows ≡ Some old → insert_entry by_bytes rows c new ≡ written c (Some new) rows) →
        match_ordering o ((c, new) ∷ row ∷ rows) ((row.0, new) ∷ rows) (row ∷ insert_entry by_bytes rows c new)
        ≡ (if is_eq o then (row.0, new) ∷ rows else row ∷ written c (Some new) rows)
    by Less e there more =
        let none : session_in c rows ≡ None = no_session c rows (before_more c row.0 rows e by_client.0) in
        absurd (cc)
    by Equal e there more = refl
    by Greater e there more = ap (λ rest. row ∷ rest) (more there)

-- ---- an accepted Connect

-- its mark
accepted_mark : (limits : Limits) (state : State) (x : ConnectionName) (c : Client) (clean : Bool) → owner_in x state.sessions ≡ None → may_have_session limits state c ≡ true →
    mark_in limits state (commands.Connect x c clean) ≡ Mark.Accepted
accepted_mark limits state x c clean none admitted =
    ap (connect_mark_in limits state c) none ∙ ap (λ b. if b then Mark.Accepted else Mark.Full) admitted

-- with what it puts in the client's place, and what it answers
accepted_step : (limits : Limits) (later : ℕ) (state : State) (x : ConnectionName) (c : Client) (clean : Bool) (kept : ClientSession) (answers : List Output) → IsSound state →
    owner_in x state.sessions ≡ None → may_have_session limits state c ≡ true → session_connected state.window (x, clean) (session_in c state.sessions) ≡ kept →
    connect_answers_in state.window x clean (session_in c state.sessions) Mark.Accepted ≡ answers →
    step limits later state (commands.Connect x c clean)
    ≡ (record { window = state.window; sessions = insert_entry by_bytes state.sessions c kept; retained = state.retained }, answers)
accepted_step limits later state x c clean kept answers sound none admitted is answered =
    ap (λ mark. step_at state.window (record { command = commands.Connect x c clean; mark = mark }) state) (accepted_mark limits state x c clean none admitted)
    ∙ ap₂ (λ sessions a. (record { window = state.window; sessions = sessions; retained = state.retained }, a))
    (put_left state.window x c clean state.retained (session_connected state.window (x, clean) (session_in c state.sessions)) state.sessions sound.by_client
    (nobody_owns x state.sessions none)
    ∙ ap (λ k. insert_entry by_bytes state.sessions c k) is)
    answered

-- a session that begins
anew : (w : ℕ) (x : ConnectionName) (clean : Bool) (old : Option ClientSession) → begins_session clean (option_map (λ (k : ClientSession). k.clean) old) ≡ true →
    (session_connected w (x, clean) old ≡ session_anew (x, clean))
    × (connect_answers_in w x clean old Mark.Accepted ≡ close_outputs (connection_of old) ++ welcome x false ∷ [])
anew w x clean None e = (refl, refl)
anew w x clean (Some old) e = (
  ap (λ b. if b then session_anew (x, clean) else session_resumed w (x, clean) old) e,
  ap (λ b. close_outputs old.connection ++ welcome x (not b)
      ∷ map (Send x) (if b then [] else resend old.state.queue.in_flight ++ fill_sends w old.state.queue.in_flight old.state.queue.waiting)) e,
)

pub beginning_step : BeginningStep
beginning_step limits later state x c clean sound none admitted begins =
    let h = anew state.window x clean (session_in c state.sessions) begins in
    accepted_step limits later state x c clean (session_anew (x, clean)) (close_outputs (connection_of (session_in c state.sessions)) ++ welcome x false ∷ [])
    sound none admitted h.0 h.1

-- a session that continues
pub resuming_step : ResumingStep
resuming_step limits later state x c kept sound none found lasting =
    accepted_step limits later state x c false (session_resumed state.window (x, false) kept)
    (close_outputs kept.connection ++ welcome x true
    ∷ map (Send x) (resend kept.state.queue.in_flight ++ fill_sends state.window kept.state.queue.in_flight kept.state.queue.waiting))
    sound none (ap (λ o. is_some o || nat_lt (length state.sessions) limits.sessions) found)
    (ap (session_connected state.window (x, false)) found ∙ ap (λ b. if b then session_anew (x, false) else session_resumed state.window (x, false) kept) lasting)
    (ap (λ o. connect_answers_in state.window x false o Mark.Accepted) found
    ∙ ap (λ b. close_outputs kept.connection ++ welcome x (not b)
    ∷ map (Send x) (if b then [] else resend kept.state.queue.in_flight ++ fill_sends state.window kept.state.queue.in_flight kept.state.queue.waiting)) lasting)
    ∙ ap (λ sessions. (
      record { window = state.window; sessions = sessions; retained = state.retained },
      close_outputs kept.connection ++ welcome x true
          ∷ map (Send x) (resend kept.state.queue.in_flight ++ fill_sends state.window kept.state.queue.in_flight kept.state.queue.waiting),
    ))
    (insertion_writes c kept (session_resumed state.window (x, false) kept) state.sessions sound.by_client found)

-- ---- a session too many

pub full_step : FullStep
full_step limits later state x c clean none full =
    ap₂ (λ (s : State) a. (s, a))
    (ap₂ (λ sessions retained. record { window = state.window; sessions = sessions; retained = retained })
    (nobody_stays limits later state (commands.Connect x c clean) x refl none (ap is_accepted marked))
    (retained_same (commands.Connect x c clean) (mark_in limits state (commands.Connect x c clean)) state.retained (ap is_taken marked)))
    (ap (λ m. answers_by_state state.window (record { command = commands.Connect x c clean; mark = m }) state (commands.Connect x c clean) m) marked)
  where
    marked : mark_in limits state (commands.Connect x c clean) ≡ Mark.Full
    marked = ap (connect_mark_in limits state c) none ∙ ap (λ b. if b then Mark.Accepted else Mark.Full) full
