-- What a client that comes back is sent, as what is kept of its session says.
use Rattle.std.proofs.Common.{◌≡◌, ℕ, Bool, true, false, ◌||◌, if◌then◌else◌, Option, Some, None, List, [], ◌∷◌, ◌++◌, length, map, refl, ap, ap₂, ◌∙◌}
use Rattle.session_base.specs.Subscriptions.{GrantedSubscription}
use Rattle.packet.specs.declared.packet.Packet.TheVariants as packets
use Rattle.session_base.specs.EntryPackets.{fill_sends, resend}
use Rattle.broker_spec.specs.Connection.{ConnectionName}
use Rattle.broker_spec.specs.Place.{Client, Place, Past, Limits}
use Rattle.broker_spec.specs.Sessions.{accepts, expels, ends_any, current_connection, clean_session_of, newest_clean_session, newest_connection, is_beginning, in_session}
use Rattle.broker_spec.specs.Subscriptions.{subscriptions_of}
use Rattle.broker_spec.specs.Received.{received_of}
use Rattle.broker_spec.specs.Entries.{Entry, copies_at, queued}
use Rattle.broker_spec.specs.Readings.{waiting_of}
use Rattle.broker_spec.specs.Times.{answered_by, start_all, started, window_at, entries_of}
use Rattle.broker_spec.specs.Sends.{resent_outputs}
use Rattle.broker_spec.specs.Answers.{close_outputs}
use Rattle.broker_base.specs.ClientSession.{flights_below, client_session}
use Rattle.broker_base.specs.StepAnswers.{connection_of, resumed}
use Rattle.broker_spec.specs.declared.command.Output.TheVariants.{Send}
use Rattle.broker_spec.proofs.SoundEntries.{Sound}
use Rattle.broker_base.proofs.flights.IdentifiersInFlight.{append_none}
use Rattle.broker_base.proofs.flights.SendsOfStarts.{resent_is}
use Rattle.broker_base.proofs.QueueAfter.{sound_entries}
use Rattle.broker_base.proofs.KeptAfter.{kept_with}
use Rattle.broker_base.proofs.QuietPasts.{no_connection}
use Rattle.broker_base.proofs.flights.PubrelsAfter.{none_released_ever}

-- ---- a Connect

pub closed_is : (limits : Limits) (past : Past) (c : Client) → close_outputs (current_connection past c) ≡ close_outputs (connection_of (client_session limits past c))
closed_is limits past c = by (clean_session_of past c) refl
  where
    by : (session : Option Bool) → clean_session_of past c ≡ session →
        close_outputs (current_connection past c) ≡ close_outputs (connection_of (kept_with (length past) session (current_connection past c) (subscriptions_of past c) (received_of past c) (entries_of limits past c)))
    by None e = ap close_outputs (no_connection past c e)
    by (Some clean) e = refl

resumed_by : (x : ConnectionName) (w n : ℕ) (clean expelled over : Bool) (session : Option Bool) (connection : Option ConnectionName) (held : List GrantedSubscription) (ids : List ℕ) (es : List Entry) → Sound n es →
    resent_outputs x n (in_session (newest_clean_session (Some (x, clean)) expelled over session) (is_beginning (Some (x, clean)) session) []
    (started w n (newest_connection (Some (x, clean)) over connection) (es ++ map (Entry.Queued n) [])))
    ≡ map (Send x) (resumed w clean (kept_with n session connection held ids es))
resumed_by x w n clean expelled over None connection held ids es s = ap (λ ids. map (λ id. Send x (packets.Pubrel id)) ids ++ [] ++ []) (none_released_ever n)
resumed_by x w n clean expelled over (Some old) connection held ids es s = by (clean || old)
  where
    by : (b : Bool) →
        resent_outputs x n (in_session (Some clean) b [] (start_all w n [] (es ++ map (Entry.Queued n) [])))
        ≡ map (Send x) (if b then [] else resend (flights_below n es) ++ fill_sends w (flights_below n es) (waiting_of es))
    by true = ap (λ ids. map (λ id. Send x (packets.Pubrel id)) ids ++ [] ++ []) (none_released_ever n)
    by false = ap (λ others. resent_outputs x n (start_all w n [] others)) (append_none es) ∙ resent_is x w n es s.below s.in_order

pub resumed_is : (limits : Limits) (past : Past) (c : Client) (x : ConnectionName) (clean : Bool) (place : Place) →
    accepts place.command place.mark c ≡ Some (x, clean) → copies_at place past c ≡ [] →
    answered_by place.command place.mark (length past) c (entries_of limits past c) ≡ entries_of limits past c →
    resent_outputs x (length past) (entries_of limits (place ∷ past) c) ≡ map (Send x) (resumed (window_at limits (place ∷ past)) clean (client_session limits past c))
unfolding entries_of clean_session_of current_connection
resumed_is limits past c x clean place opens no_copies no_answer =
    ap (λ opened. resent_outputs x (length past) (in_session (newest_clean_session opened (expels place.command c) (ends_any place c (current_connection past c)) (clean_session_of past c)) (is_beginning opened (clean_session_of past c)) []
    (started (window_at limits (place ∷ past)) (length past) (newest_connection opened (ends_any place c (current_connection past c)) (current_connection past c))
    (answered_by place.command place.mark (length past) c (entries_of limits past c) ++ map (Entry.Queued (length past)) (queued (copies_at place past c)))))) opens
    ∙ ap₂ (λ es ps. resent_outputs x (length past) (in_session (newest_clean_session (Some (x, clean)) (expels place.command c) (ends_any place c (current_connection past c)) (clean_session_of past c)) (is_beginning (Some (x, clean)) (clean_session_of past c)) []
    (started (window_at limits (place ∷ past)) (length past) (newest_connection (Some (x, clean)) (ends_any place c (current_connection past c)) (current_connection past c)) (es ++ map (Entry.Queued (length past)) (queued ps))))) no_answer no_copies
    ∙ resumed_by x (window_at limits (place ∷ past)) (length past) clean (expels place.command c) (ends_any place c (current_connection past c)) (clean_session_of past c) (current_connection past c)
    (subscriptions_of past c) (received_of past c) (entries_of limits past c) (sound_entries limits past c)
