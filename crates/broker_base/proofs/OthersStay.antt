-- A session that a place does not touch stays as it is.
use Rattle.std.proofs.Common.{◌≡◌, ℕ, Bool, true, false, if◌then◌else◌, Option, Some, None, ◌∷◌, length, refl, ap, sym}
use Rattle.std.proofs.lemmas.Bool.{or_parts}
use Rattle.retained.specs.Retained.{RetainedTopics}
use Rattle.broker_spec.specs.Place.{Client, Place, Past, Limits}
use Rattle.broker_spec.specs.Sessions.{accepts, ends_any, current_connection, clean_session_of}
use Rattle.broker_spec.specs.Subscriptions.{subscriptions_of}
use Rattle.broker_spec.specs.Received.{received_of}
use Rattle.broker_spec.specs.Retained.{retained_publications}
use Rattle.broker_spec.specs.Times.{window_at, entries_of}
use Rattle.broker_base.specs.ClientSession.{ClientSession, queue_of, client_session}
use Rattle.broker_base.specs.SessionStep.{session_by, session_touched}
use Rattle.broker_base.specs.Step.{is_about, touches, session_after, IsWindow}
use Rattle.broker_base.proofs.KeptAfter.{kept_with, kept_now}
use Rattle.broker_base.proofs.UntouchedStays.{kept_stays}

-- ---- of a past

-- what is kept after a place that does not touch it, of plain values
pub stays_with : (limits : Limits) (later : ℕ) → IsWindow limits later → (place : Place) (past : Past) (c : Client) (clean : Bool) →
    touches place c (kept_now limits past c clean) ≡ false →
    session_touched (window_at limits (place ∷ past)) place (retained_publications past) c
    (kept_with (length past) (Some clean) (current_connection past c) (subscriptions_of past c) (received_of past c) (entries_of limits past c))
    ≡ kept_with (length past) (Some clean) (current_connection past c) (subscriptions_of past c) (received_of past c) (entries_of limits past c)
stays_with limits later follows place past c clean untouched =
    let h = or_parts (ends_any place c (current_connection past c)) (is_about place.command place.mark c (subscriptions_of past c)) untouched in
    kept_stays (window_at limits (place ∷ past)) place (retained_publications past) c
    (record { clean = clean; connection = current_connection past c; state = record { subscriptions = subscriptions_of past c; received = received_of past c; queue = queue_of (length past) (entries_of limits past c) } })
    h.0 h.1

-- a session after a place, by whether it is touched
abbrev pub left_with : ℕ → Place → RetainedTopics → Client → Option ClientSession → Option ClientSession
left_with w place content c None = None
left_with w place content c (Some kept) = session_after w place content c kept

pub left_is : (limits : Limits) (later : ℕ) → IsWindow limits later → (place : Place) (past : Past) (c : Client) → accepts place.command place.mark c ≡ None →
    left_with (window_at limits (place ∷ past)) place (retained_publications past) c (client_session limits past c)
    ≡ session_touched (window_at limits (place ∷ past)) place (retained_publications past) c (client_session limits past c)
left_is limits later follows place past c not_accepted = by (clean_session_of past c)
  where
    touched : (b : Bool) (clean : Bool) → touches place c (kept_now limits past c clean) ≡ b →
        (if b then session_touched (window_at limits (place ∷ past)) place (retained_publications past) c
        (kept_with (length past) (Some clean) (current_connection past c) (subscriptions_of past c) (received_of past c) (entries_of limits past c))
        else kept_with (length past) (Some clean) (current_connection past c) (subscriptions_of past c) (received_of past c) (entries_of limits past c))
        ≡ session_touched (window_at limits (place ∷ past)) place (retained_publications past) c
        (kept_with (length past) (Some clean) (current_connection past c) (subscriptions_of past c) (received_of past c) (entries_of limits past c))
    touched true clean e = refl
    touched false clean e = sym (stays_with limits later follows place past c clean e)

    by : (session : Option Bool) →
        left_with (window_at limits (place ∷ past)) place (retained_publications past) c
        (kept_with (length past) session (current_connection past c) (subscriptions_of past c) (received_of past c) (entries_of limits past c))
        ≡ session_touched (window_at limits (place ∷ past)) place (retained_publications past) c
        (kept_with (length past) session (current_connection past c) (subscriptions_of past c) (received_of past c) (entries_of limits past c))
    by None = sym (ap (λ opened. session_by (window_at limits (place ∷ past)) place (retained_publications past) c opened None) not_accepted)
    by (Some clean) = touched (touches place c (kept_now limits past c clean)) clean refl
