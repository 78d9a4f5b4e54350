-- What is sent after a client's answer, as what is kept of its session says.
use Rattle.std.proofs.Common.{◌≡◌, ℕ, ◌<◌, suc, Bool, false, ◌==◌, Option, Some, None, List, [], ◌∷◌, ◌++◌, length, map, refl, ap, ap₂, ◌∙◌, sym, arith}
use Rattle.packet.specs.declared.packet.Packet.{Packet}
use Rattle.session_base.specs.EntryPackets.{fill_sends}
use Rattle.broker_spec.specs.Connection.{ConnectionName}
use Rattle.broker_spec.specs.Place.{Client, Mark, Place, Past, Limits}
use Rattle.broker_spec.specs.Sessions.{accepts, ends_any, current_connection, clean_session_of}
use Rattle.broker_spec.specs.Subscriptions.{subscriptions_of}
use Rattle.broker_spec.specs.Received.{received_of}
use Rattle.broker_spec.specs.Entries.{Entry, copies_at, queued}
use Rattle.broker_spec.specs.Readings.{waiting_of, busy_ids}
use Rattle.broker_spec.specs.Times.{answered_by, started, window_at, entries_of}
use Rattle.broker_spec.specs.Sends.{all_started}
use Rattle.broker_base.specs.ClientSession.{ClientSession, flights_below, client_session}
use Rattle.broker_base.proofs.flights.FillingAlways.{answered_flights}
use Rattle.broker_base.specs.StepAnswers.{while_connected}
use Rattle.broker_spec.specs.declared.command.Command.{Command}
use Rattle.broker_spec.specs.declared.command.Output.TheVariants.{Send}
use Rattle.session_base.proofs.CountedIdentifiers.{count}
use Rattle.broker_spec.proofs.SoundEntries.{Sound}
use Rattle.broker_base.proofs.flights.IdentifiersInFlight.{append_none, same_ids}
use Rattle.broker_spec.proofs.EntriesStartedBefore.{StartedBefore, before_below, before_answered}
use Rattle.broker_base.proofs.flights.SendsOfStarts.{starts_sent}
use Rattle.broker_base.proofs.QueueAfter.{sound_entries, sound_answered, flights_answered, waiting_answered}
use Rattle.broker_base.proofs.KeptAfter.{kept_with}
use Rattle.broker_base.proofs.QuietPasts.{entries_next, entries_none}

-- ---- the client's answers

nothing_started : (x : ConnectionName) (n : ℕ) (es : List Entry) → StartedBefore n es → all_started x n es ≡ []
nothing_started x n [] h = refl
nothing_started x n (Entry.Queued made p ∷ es) h = nothing_started x n es h
nothing_started x n (Entry.Sent made p id start ∷ es) h = rw (earlier start n h.0) (nothing_started x n es h.1)
  where
    earlier : (start n : ℕ) → start < n → (start == n) ≡ false
    earlier start n h = grind arith
nothing_started x n (Entry.Released made p id start release ∷ es) h = nothing_started x n es h
nothing_started x n (Entry.Done made p id start release finish ∷ es) h = nothing_started x n es h

-- what starts after a client's answer, by its connection
started_after : (x : ConnectionName) (w n : ℕ) (command : Command) (mark : Mark) (c : Client) (connection : Option ConnectionName) (es : List Entry) → Sound n es →
    all_started x n (started w n connection (answered_by command mark n c es ++ map (Entry.Queued n) []))
    ≡ map (Send x) (while_connected connection (fill_sends w (answered_flights command mark c (flights_below n es)) (waiting_of es)))
started_after x w n command mark c connection es s =
    ap (λ others. all_started x n (started w n connection others)) (append_none (answered_by command mark n c es))
    ∙ by connection
  where
    before : StartedBefore n (answered_by command mark n c es)
    before = before_answered command mark n c es (before_below n es s.below)

    by : (connection : Option ConnectionName) →
        all_started x n (started w n connection (answered_by command mark n c es))
        ≡ map (Send x) (while_connected connection (fill_sends w (answered_flights command mark c (flights_below n es)) (waiting_of es)))
    by None = nothing_started x n (answered_by command mark n c es) before
    by (Some y) =
        let t : Sound (suc n) (answered_by command mark n c es) = sound_answered command mark n c es s in
        starts_sent x w n [] (flights_below (suc n) (answered_by command mark n c es)) (answered_by command mark n c es) t.in_order before
        (λ test. same_ids (suc n) (answered_by command mark n c es) t.below test ∙ ap (count test) (sym (append_none (busy_ids (answered_by command mark n c es)))))
        ∙ ap₂ (λ fs ps. map (Send x) (fill_sends w fs ps)) (flights_answered command mark n c es s) (waiting_answered command mark n c es)

-- the same for the session, if there is one
abbrev pub fills_after : ℕ → Command → Mark → Client → Option ClientSession → List Packet
fills_after w command mark c (Some kept) = while_connected kept.connection (fill_sends w (answered_flights command mark c kept.state.queue.in_flight) kept.state.queue.waiting)
fills_after w command mark c None = []

started_by_kept : (limits : Limits) (place : Place) (past : Past) (c : Client) (x : ConnectionName) (session : Option Bool) → clean_session_of past c ≡ session →
    accepts place.command place.mark c ≡ None → ends_any place c (current_connection past c) ≡ false → copies_at place past c ≡ [] →
    all_started x (length past) (entries_of limits (place ∷ past) c)
    ≡ map (Send x) (fills_after (window_at limits (place ∷ past)) place.command place.mark c
    (kept_with (length past) session (current_connection past c) (subscriptions_of past c) (received_of past c) (entries_of limits past c)))
started_by_kept limits place past c x None is_session not_opened not_ended no_copies =
    ap (all_started x (length past)) (entries_none limits place past c not_opened is_session)
started_by_kept limits place past c x (Some clean) is_session not_opened not_ended no_copies =
    ap (all_started x (length past))
    (entries_next limits place past c clean not_opened not_ended is_session
    ∙ ap (λ ps. started (window_at limits (place ∷ past)) (length past) (current_connection past c) (answered_by place.command place.mark (length past) c (entries_of limits past c) ++ map (Entry.Queued (length past)) (queued ps))) no_copies)
    ∙ started_after x (window_at limits (place ∷ past)) (length past) place.command place.mark c (current_connection past c) (entries_of limits past c) (sound_entries limits past c)

pub starts_are : (limits : Limits) (place : Place) (past : Past) (c : Client) (x : ConnectionName) →
    accepts place.command place.mark c ≡ None → ends_any place c (current_connection past c) ≡ false → copies_at place past c ≡ [] →
    all_started x (length past) (entries_of limits (place ∷ past) c)
    ≡ map (Send x) (fills_after (window_at limits (place ∷ past)) place.command place.mark c (client_session limits past c))
starts_are limits place past c x = started_by_kept limits place past c x (clean_session_of past c) refl
