-- A step keeps no more of a session's entries in flight than the window allows, if the window does
-- not shrink.
use Rattle.std.proofs.Common.{ℕ, ◌≤◌, suc, Bool, true, false, not, ◌&&◌, ◌||◌, if◌then◌else◌, Option, Some, None, List, [], ◌∷◌, length, filter, arith}
use Rattle.packet.specs.declared.packet.Packet.TheVariants as packets
use Rattle.retained.specs.Retained.{RetainedTopics}
use Rattle.lists.specs.Lists.{IsDistinct}
use Rattle.session_base.specs.declared.publication.Publication.{Publication}
use Rattle.session_base.specs.Publication.{is_answered}
use Rattle.session_base.specs.Queue.{Flight, Queue, ids_of, awaits_puback, awaits_pubcomp, on_puback, on_pubrec, on_pubcomp, enqueue, filled}
use Rattle.session_base.specs.Copies.{copies_left}
use Rattle.session_base.proofs.FillsOfQueues.{fill_within}
use Rattle.session_base.proofs.IdentifiersStayApart.{pubrec_length}
use Rattle.broker_spec.specs.Connection.{ConnectionName}
use Rattle.broker_spec.specs.Place.{Client, same_client, Mark, Place, Limits, only_if}
use Rattle.broker_spec.specs.Sessions.{accepts, ends_any, expels}
use Rattle.broker_spec.specs.Commands.{is_start}
use Rattle.broker_base.specs.ClientSession.{ClientSession}
use Rattle.broker_base.specs.SessionStep.{copies_with, filled_on, answered_queue, copied_queue, session_on, session_anew, session_resumed, session_connected, session_by, session_touched}
use Rattle.broker_base.specs.State.{Sessions, State}
use Rattle.broker_base.specs.Decisions.{place_in}
use Rattle.broker_base.specs.Step.{touches, session_after, window_after, step}
use Rattle.broker_base.specs.StateTheorems.{IsSoundSession, FitsWindow, AllSound, AllInWindow}
use Rattle.broker_spec.specs.declared.command.Command.{Command}
use Rattle.broker_spec.specs.declared.command.Command.TheVariants as commands
use Rattle.broker_base.proofs.RowsKeep.{If, AllRows, all_left, all_with}

-- ---- a queue

abbrev pub Fits : ℕ → Queue → Type 0
Fits w q = length q.in_flight ≤ w

fewer : {A : Type 0} (test : A → Bool) (xs : List A) → length (filter test xs) ≤ length xs
fewer test [] = omega arith
fewer test (x ∷ xs) = by (test x) (fewer test xs)
  where
    by : (b : Bool) → length (filter test xs) ≤ length xs → length (if b then x ∷ filter test xs else filter test xs) ≤ suc (length xs)
    by true k = omega (arith, k)
    by false k = omega (arith, k)

less : (w m n : ℕ) → m ≤ n → n ≤ w → m ≤ w
less w m n h k = omega (arith, h, k)

fits_on : (w : ℕ) (connection : Option ConnectionName) (fs : List Flight) (ps : List Publication) → length fs ≤ w → Fits w (filled_on connection w fs ps)
fits_on w (Some x) fs ps h = fill_within w fs ps h
fits_on w None fs ps h = h

one_of : (w : ℕ) (b : Bool) (q r : Queue) → Fits w q → Fits w r → Fits w (if b then q else r)
one_of w true q r h k = h
one_of w false q r h k = k

answer_fits : (w : ℕ) (command : Command) (mark : Mark) (c : Client) (connection : Option ConnectionName) (q : Queue) → IsDistinct (ids_of q.in_flight) → Fits w q →
    Fits w (answered_queue w command mark c connection q)
answer_fits w (commands.Packet y (packets.Puback i)) (Mark.Handled d) c connection q a h =
    one_of w (same_client d c) _ q
    (fits_on w connection (on_puback i q.in_flight) q.waiting
    (less w _ (length q.in_flight) (fewer (λ flight. not (awaits_puback i flight)) q.in_flight) h)) h
answer_fits w (commands.Packet y (packets.Pubrec i)) (Mark.Handled d) c connection q a h =
    one_of w (same_client d c) (record { in_flight = on_pubrec i q.in_flight; waiting = q.waiting }) q
    (let e = pubrec_length i q.in_flight a in omega (arith, e, h)) h
answer_fits w (commands.Packet y (packets.Pubcomp i)) (Mark.Handled d) c connection q a h =
    one_of w (same_client d c) _ q
    (fits_on w connection (on_pubcomp i q.in_flight) q.waiting
    (less w _ (length q.in_flight) (fewer (λ flight. not (awaits_pubcomp i flight)) q.in_flight) h)) h
answer_fits w command mark c connection q a h = h

copies_fit : (w : ℕ) (copies : List Publication) (q : Queue) → Fits w q → Fits w (copies_left w copies q)
copies_fit w [] q h = h
copies_fit w (p ∷ copies) q h =
    elim (is_answered p.qos) as (λ (b : Bool). Fits w (if b then copies_left w copies (filled w (enqueue p q)) else copies_left w copies q)) [
      | true ↦ copies_fit w copies (filled w (enqueue p q)) (fill_within w (enqueue p q).in_flight (enqueue p q).waiting h)
      | false ↦ copies_fit w copies q h
    ]

copied_fit : (w : ℕ) (connection : Option ConnectionName) (copies : List Publication) (q : Queue) → Fits w q → Fits w (copied_queue w connection copies q)
copied_fit w (Some x) copies q h = copies_fit w copies q h
copied_fit w None copies q h = h

-- ---- a session

fits_kept : (w : ℕ) (place : Place) (content : RetainedTopics) (c : Client) (connection : Option ConnectionName) (old : ClientSession) → IsSoundSession old → FitsWindow w old →
    FitsWindow w (session_on w place content c connection old)
fits_kept w place content c connection old s h =
    copied_fit w connection (copies_with place.command place.mark content c old.state.subscriptions)
    (answered_queue w place.command place.mark c connection old.state.queue)
    (answer_fits w place.command place.mark c connection old.state.queue s.identifiers h)

-- a session that is sound, and no more of which is in flight
abbrev pub Both : ℕ → ClientSession → Type 0
Both w kept = IsSoundSession kept × FitsWindow w kept

fits_connected : (w : ℕ) (opened : ConnectionName × Bool) (old : Option ClientSession) → If (Both w) old → FitsWindow w (session_connected w opened old)
fits_connected w opened None h = omega arith
fits_connected w opened (Some old) h =
    elim (opened.1 || old.clean) as (λ (b : Bool). FitsWindow w (if b then session_anew opened else session_resumed w opened old)) [
      | true ↦ omega arith
      | false ↦ fill_within w old.state.queue.in_flight old.state.queue.waiting h.1
    ]

fits_only : (w : ℕ) (b : Bool) (kept : ClientSession) → FitsWindow w kept → If (FitsWindow w) (only_if b (Some kept))
fits_only w true kept h = h
fits_only w false kept h = tt

fits_by : (w : ℕ) (place : Place) (content : RetainedTopics) (c : Client) (opened : Option (ConnectionName × Bool)) (old : ClientSession) → Both w old →
    If (FitsWindow w) (session_by w place content c opened (Some old))
fits_by w place content c (Some opened) old h = fits_connected w opened (Some old) h
fits_by w place content c None old h =
    fits_only w (not (expels place.command c || (old.clean && ends_any place c old.connection))) _
    (fits_kept w place content c (only_if (not (ends_any place c old.connection)) old.connection) old h.0 h.1)

fits_row : (w : ℕ) (place : Place) (content : RetainedTopics) (c : Client) (kept : ClientSession) → Both w kept → If (FitsWindow w) (session_after w place content c kept)
fits_row w place content c kept h =
    elim (touches place c kept) as (λ (b : Bool). If (FitsWindow w) (if b then session_touched w place content c (Some kept) else Some kept)) [
      | true ↦ fits_by w place content c (accepts place.command place.mark c) kept h
      | false ↦ h.1
    ]

-- ---- the state

both_rows : (v w : ℕ) (rows : Sessions) → v ≤ w → AllSound rows → AllInWindow v rows → AllRows (Both w) rows
both_rows v w [] e h k = tt
both_rows v w (row ∷ rows) e h k = ((h.0, less w _ v k.0 e), both_rows v w rows e h.1 k.1)

no_less : (b : Bool) (window later : ℕ) → window ≤ later → window ≤ (if b then later else window)
no_less true window later h = h
no_less false window later h = omega arith

pub stays_in_window : (limits : Limits) (later : ℕ) (state : State) (command : Command) → state.window ≤ later → AllSound state.sessions → AllInWindow state.window state.sessions →
    AllInWindow (step limits later state command).0.window (step limits later state command).0.sessions
stays_in_window limits later state command grows sound h =
    let w = window_after later command state.window in
    let rows : AllRows (Both w) state.sessions = both_rows state.window w state.sessions (no_less (is_start command) state.window later grows) sound h in
    all_with (Both w) (FitsWindow w) w (place_in limits state command) state.retained state.sessions command (place_in limits state command).mark
    (λ opened old k. fits_connected w opened old k) rows
    (all_left (Both w) (FitsWindow w) w (place_in limits state command) state.retained
    (λ c kept k. fits_row w (place_in limits state command) state.retained c kept k) state.sessions rows)
