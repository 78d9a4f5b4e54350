-- What a session's client is sent of the copies that a place makes, as what is kept says.
use Rattle.std.proofs.Common.{◌≡◌, ℕ, ◌≤◌, Bool, false, ◌⊎◌, inl, inr, Option, Some, None, List, [], ◌∷◌, ◌++◌, length, map, refl, ap, ap₂, ◌∙◌, sym, subst, arith}
use Rattle.session_base.specs.declared.publication.Publication.{Publication}
use Rattle.session_base.specs.Queue.{ids_of}
use Rattle.session_base.specs.EntryPackets.{copies_sent}
use Rattle.broker_spec.specs.Connection.{ConnectionName}
use Rattle.broker_spec.specs.Place.{Client, Place, Past, Limits}
use Rattle.broker_spec.specs.Sessions.{accepts, ends_any, current_connection, clean_session_of}
use Rattle.broker_spec.specs.Subscriptions.{subscriptions_of}
use Rattle.broker_spec.specs.Received.{received_of}
use Rattle.broker_spec.specs.Retained.{retained_publications}
use Rattle.broker_spec.specs.Entries.{Entry, copies_at, queued}
use Rattle.broker_spec.specs.Readings.{made_at, waiting_of, busy_ids}
use Rattle.broker_spec.specs.Times.{answered_by, start_all, started, window_at, entries_of}
use Rattle.broker_spec.specs.Sends.{copy_outputs, handed_to, deliveries_to}
use Rattle.broker_base.specs.ClientSession.{flights_below, queue_of, client_session}
use Rattle.broker_base.specs.StepAnswers.{copies_to}
use Rattle.broker_spec.specs.declared.command.Output.TheVariants.{Send}
use Rattle.session_base.proofs.CountedIdentifiers.{count, SameIds, same_length}
use Rattle.broker_spec.proofs.SoundEntries.{Sound}
use Rattle.broker_base.proofs.flights.IdentifiersInFlight.{append_none, same_ids}
use Rattle.broker_base.proofs.flights.SendsOfCopies.{Quiet, handed_is}
use Rattle.broker_base.proofs.flights.EntriesOfPlaces.{busy_from, busy_from_is, made_here}
use Rattle.broker_base.proofs.QueueAfter.{sound_entries, copies_are}
use Rattle.broker_base.proofs.KeptAfter.{kept_with}
use Rattle.broker_base.proofs.QuietPasts.{QuietEntries, quiet_entries, quiet_queue, no_connection, entries_next}

-- ---- copies

pub delivered : (x : ConnectionName) (w n : ℕ) (es : List Entry) (copies : List Publication) → Sound n es → QuietEntries w es → Quiet w (flights_below n es) (waiting_of es) →
    copy_outputs x n copies (made_at n (start_all w n [] (es ++ map (Entry.Queued n) (queued copies)))) ≡ map (Send x) (copies_sent w copies (queue_of n es))
delivered x w n es copies s quiet quiet_flights =
    ap (copy_outputs x n copies) (made_here w n [] es (queued copies) s.below s.in_order (by quiet))
    ∙ handed_is x w n (busy_from [] es) (flights_below n es) (waiting_of es) copies same quiet_flights
  where
    same : SameIds (ids_of (flights_below n es)) (busy_from [] es)
    same test = same_ids n es s.below test ∙ ap (count test) (sym (append_none (busy_ids es))) ∙ busy_from_is [] es s.in_order test

    size : length (busy_ids es) ≡ length (busy_from [] es)
    size = same_length (busy_ids es) (busy_from [] es) (λ test. ap (count test) (sym (append_none (busy_ids es))) ∙ busy_from_is [] es s.in_order test)

    by : QuietEntries w es → (waiting_of es ≡ []) ⊎ (w ≤ length (busy_from [] es))
    by (inl e) = inl e
    by (inr h) = inr (omega (arith, h, size))

-- by the session and the connection
copies_by_kept : (limits : Limits) (place : Place) (past : Past) (c : Client) (session : Option Bool) (connection : Option ConnectionName) →
    clean_session_of past c ≡ session → current_connection past c ≡ connection →
    accepts place.command place.mark c ≡ None → ends_any place c (current_connection past c) ≡ false →
    answered_by place.command place.mark (length past) c (entries_of limits past c) ≡ entries_of limits past c →
    window_at limits (place ∷ past) ≡ window_at limits past →
    handed_to connection (length past) (copies_at place past c) (made_at (length past) (entries_of limits (place ∷ past) c))
    ≡ copies_to (window_at limits (place ∷ past)) place (retained_publications past) c
    (kept_with (length past) session connection (subscriptions_of past c) (received_of past c) (entries_of limits past c))
copies_by_kept limits place past c None None is_session is_connection not_opened not_ended no_answer same_window = refl
copies_by_kept limits place past c None (Some x) is_session is_connection not_opened not_ended no_answer same_window =
    absurd (let none : current_connection past c ≡ None = no_connection past c is_session in cc)
copies_by_kept limits place past c (Some clean) None is_session is_connection not_opened not_ended no_answer same_window = refl
copies_by_kept limits place past c (Some clean) (Some x) is_session is_connection not_opened not_ended no_answer same_window =
    ap (λ es. copy_outputs x (length past) (copies_at place past c) (made_at (length past) es))
    (entries_next limits place past c clean not_opened not_ended is_session
    ∙ ap₂ (λ connection es. started (window_at limits (place ∷ past)) (length past) connection (es ++ map (Entry.Queued (length past)) (queued (copies_at place past c)))) is_connection no_answer)
    ∙ delivered x (window_at limits (place ∷ past)) (length past) (entries_of limits past c) (copies_at place past c) (sound_entries limits past c)
    (subst (λ (w : ℕ). QuietEntries w (entries_of limits past c)) (sym same_window) (quiet_entries limits past c x is_connection))
    (subst (λ (w : ℕ). Quiet w (flights_below (length past) (entries_of limits past c)) (waiting_of (entries_of limits past c))) (sym same_window) (quiet_queue limits past c x is_connection))
    ∙ ap (λ ps. map (Send x) (copies_sent (window_at limits (place ∷ past)) ps (queue_of (length past) (entries_of limits past c)))) (copies_are place.command place.mark past c)

pub deliveries_are : (limits : Limits) (place : Place) (past : Past) (c : Client) →
    accepts place.command place.mark c ≡ None → ends_any place c (current_connection past c) ≡ false →
    answered_by place.command place.mark (length past) c (entries_of limits past c) ≡ entries_of limits past c →
    window_at limits (place ∷ past) ≡ window_at limits past →
    deliveries_to limits place past c ≡ copies_to (window_at limits (place ∷ past)) place (retained_publications past) c (client_session limits past c)
deliveries_are limits place past c = copies_by_kept limits place past c (clean_session_of past c) (current_connection past c) refl refl
