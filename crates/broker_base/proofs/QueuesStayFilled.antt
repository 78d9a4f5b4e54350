-- A step leaves each connected client's queue filled: it is filled when entries may start, and
-- otherwise nothing makes it less so.
use Rattle.std.proofs.Common.{◌≡◌, ℕ, Bool, true, false, not, ◌&&◌, ◌||◌, inl, inr, if◌then◌else◌, Option, Some, None, List, [], ◌∷◌, refl, ap, ◌∙◌, sym, subst}
use Rattle.std.proofs.lemmas.Bool.{or_parts}
use Rattle.packet.specs.declared.packet.Packet.TheVariants as packets
use Rattle.retained.specs.Retained.{RetainedTopics}
use Rattle.session_base.specs.declared.publication.Publication.{Publication}
use Rattle.session_base.specs.Publication.{is_answered}
use Rattle.lists.specs.Lists.{IsDistinct}
use Rattle.session_base.specs.Theorems.{IsFilledQueue}
use Rattle.session_base.specs.Queue.{Queue, ids_of, on_puback, on_pubrec, on_pubcomp, enqueue, filled}
use Rattle.session_base.specs.Copies.{copies_left}
use Rattle.session_base.proofs.FillsOfQueues.{fill_done}
use Rattle.session_base.proofs.IdentifiersStayApart.{pubrec_length}
use Rattle.broker_spec.specs.Connection.{ConnectionName}
use Rattle.broker_spec.specs.Place.{Client, same_client, Mark, Place, Limits, only_if}
use Rattle.broker_spec.specs.Sessions.{accepts, any_connection, ends, expels, ends_any}
use Rattle.broker_spec.specs.Commands.{is_start}
use Rattle.broker_base.specs.ClientSession.{ClientSession}
use Rattle.broker_base.specs.SessionStep.{copies_with, answered_queue, session_on, session_anew, session_resumed, session_connected, session_by, session_touched}
use Rattle.broker_base.specs.State.{Sessions, State}
use Rattle.broker_base.specs.Decisions.{place_in}
use Rattle.broker_base.specs.Step.{is_about, touches, session_after, window_after, step}
use Rattle.broker_base.specs.StateTheorems.{IsSoundSession, HasFilledQueue, AllSound, AllFilled}
use Rattle.broker_spec.specs.declared.command.Command.{Command}
use Rattle.broker_spec.specs.declared.command.Command.TheVariants as commands
use Rattle.broker_base.proofs.UntouchedStays.{no_start}
use Rattle.broker_base.proofs.flights.FillsWhereItMay.{still_quiet}
use Rattle.broker_base.proofs.RowsKeep.{If, AllRows, all_left, all_with}

-- ---- a queue

copies_quiet : (w : ℕ) (copies : List Publication) (q : Queue) → IsFilledQueue w q.in_flight q.waiting →
    IsFilledQueue w (copies_left w copies q).in_flight (copies_left w copies q).waiting
copies_quiet w [] q h = h
copies_quiet w (p ∷ copies) q h =
    elim (is_answered p.qos) as (λ (b : Bool).
    IsFilledQueue w (if b then copies_left w copies (filled w (enqueue p q)) else copies_left w copies q).in_flight
    (if b then copies_left w copies (filled w (enqueue p q)) else copies_left w copies q).waiting) [
      | true ↦ copies_quiet w copies (filled w (enqueue p q)) (fill_done w (enqueue p q).in_flight (enqueue p q).waiting)
      | false ↦ copies_quiet w copies q h
    ]

abbrev pub QuietNow : ℕ → Queue → Type 0
QuietNow w q = IsFilledQueue w q.in_flight q.waiting

one_of : (w : ℕ) (b : Bool) (q r : Queue) → QuietNow w q → QuietNow w r → QuietNow w (if b then q else r)
one_of w true q r h k = h
one_of w false q r h k = k

answer_quiet : (w : ℕ) (command : Command) (mark : Mark) (c : Client) (x : ConnectionName) (q : Queue) → IsDistinct (ids_of q.in_flight) → QuietNow w q →
    QuietNow w (answered_queue w command mark c (Some x) q)
answer_quiet w (commands.Packet y (packets.Puback i)) (Mark.Handled d) c x q a h = one_of w (same_client d c) _ q (fill_done w (on_puback i q.in_flight) q.waiting) h
answer_quiet w (commands.Packet y (packets.Pubrec i)) (Mark.Handled d) c x q a h =
    one_of w (same_client d c) _ q (still_quiet w q.in_flight (on_pubrec i q.in_flight) q.waiting (pubrec_length i q.in_flight a) h) h
answer_quiet w (commands.Packet y (packets.Pubcomp i)) (Mark.Handled d) c x q a h = one_of w (same_client d c) _ q (fill_done w (on_pubcomp i q.in_flight) q.waiting) h
answer_quiet w command mark c x q a h = h

-- ---- a session

quiet_on : (w : ℕ) (place : Place) (content : RetainedTopics) (c : Client) (connection : Option ConnectionName) (old : ClientSession) → IsDistinct (ids_of old.state.queue.in_flight) →
    ((x : ConnectionName) → connection ≡ Some x → QuietNow w old.state.queue) → HasFilledQueue w (session_on w place content c connection old)
quiet_on w place content c None old a h = inl refl
quiet_on w place content c (Some x) old a h =
    inr (copies_quiet w (copies_with place.command place.mark content c old.state.subscriptions) (answered_queue w place.command place.mark c (Some x) old.state.queue)
    (answer_quiet w place.command place.mark c x old.state.queue a (h x refl)))

quiet_connected : (w : ℕ) (opened : ConnectionName × Bool) (old : Option ClientSession) → HasFilledQueue w (session_connected w opened old)
quiet_connected w opened None = inr (inl refl)
quiet_connected w opened (Some old) =
    elim (opened.1 || old.clean) as (λ (b : Bool). HasFilledQueue w (if b then session_anew opened else session_resumed w opened old)) [
      | true ↦ inr (inl refl)
      | false ↦ inr (fill_done w old.state.queue.in_flight old.state.queue.waiting)
    ]

quiet_only : (w : ℕ) (b : Bool) (kept : ClientSession) → HasFilledQueue w kept → If (HasFilledQueue w) (only_if b (Some kept))
quiet_only w true kept h = h
quiet_only w false kept h = tt

-- if its connection stays, the window stays, and what was filled stays filled
quiet_same : (v w : ℕ) (place : Place) (c : Client) (kept : ClientSession) → (is_start place.command ≡ false → w ≡ v) → HasFilledQueue v kept →
    (x : ConnectionName) → only_if (not (ends_any place c kept.connection)) kept.connection ≡ Some x → QuietNow w kept.state.queue
quiet_same v w place c kept window quiet x e = by (ends_any place c kept.connection) refl e quiet
  where
    by : (over : Bool) → ends_any place c kept.connection ≡ over → only_if (not over) kept.connection ≡ Some x → HasFilledQueue v kept → QuietNow w kept.state.queue
    by true ended f k = absurd (cc)
    by false ended f (inl none) = absurd (let g : None ≡ Some x = sym none ∙ f in cc)
    by false ended f (inr k) =
        subst (λ (n : ℕ). QuietNow n kept.state.queue)
        (sym (window (no_start place.command place.mark x ((or_parts (expels place.command c) (ends place.command place.mark x) (ap (ends_any place c) (sym f) ∙ ended)).1)))) k

-- a session that is sound, and whose queue is filled in this window
abbrev pub Both : ℕ → ClientSession → Type 0
Both w kept = IsSoundSession kept × HasFilledQueue w kept

quiet_by : (v w : ℕ) (place : Place) (content : RetainedTopics) (c : Client) (opened : Option (ConnectionName × Bool)) (old : ClientSession) → (is_start place.command ≡ false → w ≡ v) → Both v old →
    If (HasFilledQueue w) (session_by w place content c opened (Some old))
quiet_by v w place content c (Some opened) old window h = quiet_connected w opened (Some old)
quiet_by v w place content c None old window h =
    quiet_only w (not (expels place.command c || (old.clean && ends_any place c old.connection))) _
    (quiet_on w place content c (only_if (not (ends_any place c old.connection)) old.connection) old h.0.identifiers (quiet_same v w place c old window h.1))

untouched_quiet : (v w : ℕ) (place : Place) (c : Client) (kept : ClientSession) → (is_start place.command ≡ false → w ≡ v) → ends_any place c kept.connection ≡ false → HasFilledQueue v kept → HasFilledQueue w kept
untouched_quiet v w place c kept window not_ended quiet = by kept.connection refl
  where
    by : (connection : Option ConnectionName) → kept.connection ≡ connection → HasFilledQueue w kept
    by None e = inl e
    by (Some x) e = inr (quiet_same v w place c kept window quiet x (ap (λ b. only_if (not b) kept.connection) not_ended ∙ e))

quiet_row : (v w : ℕ) (place : Place) (content : RetainedTopics) (c : Client) (kept : ClientSession) → (is_start place.command ≡ false → w ≡ v) → Both v kept →
    If (HasFilledQueue w) (session_after w place content c kept)
quiet_row v w place content c kept window h =
    elim (touches place c kept) as (λ (b : Bool). touches place c kept ≡ b → If (HasFilledQueue w) (if b then session_touched w place content c (Some kept) else Some kept)) [
      | true ↦ λ e. quiet_by v w place content c (accepts place.command place.mark c) kept window h
      | false ↦ λ e. untouched_quiet v w place c kept window (or_parts (ends_any place c kept.connection) (is_about place.command place.mark c kept.state.subscriptions) e).0 h.1
    ] refl

-- ---- the state

both_rows : (w : ℕ) (rows : Sessions) → AllSound rows → AllFilled w rows → AllRows (Both w) rows
both_rows w [] h k = tt
both_rows w (row ∷ rows) h k = ((h.0, k.0), both_rows w rows h.1 k.1)

not_start : (b : Bool) (later window : ℕ) → b ≡ false → (if b then later else window) ≡ window
not_start true later window e = absurd (cc)
not_start false later window e = refl

pub stays_filled : (limits : Limits) (later : ℕ) (state : State) (command : Command) → AllSound state.sessions → AllFilled state.window state.sessions →
    AllFilled (step limits later state command).0.window (step limits later state command).0.sessions
stays_filled limits later state command sound h =
    let rows : AllRows (Both state.window) state.sessions = both_rows state.window state.sessions sound h in
    all_with (Both state.window) (HasFilledQueue (window_after later command state.window)) (window_after later command state.window) (place_in limits state command) state.retained state.sessions command (place_in limits state command).mark
    (λ opened old k. quiet_connected (window_after later command state.window) opened old) rows
    (all_left (Both state.window) (HasFilledQueue (window_after later command state.window)) (window_after later command state.window) (place_in limits state command) state.retained
    (λ c kept k. quiet_row state.window (window_after later command state.window) (place_in limits state command) state.retained c kept (λ e. not_start (is_start command) later state.window e) k)
    state.sessions rows)
