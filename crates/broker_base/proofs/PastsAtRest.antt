-- After one more command what is kept of a client's session is the step of what was kept before: in every past a
-- connected client's queue is filled, and its identifiers are distinct.
use Rattle.std.proofs.Common.{◌≡◌, ℕ, ◌≤◌, Bool, true, false, not, ◌==◌, Option, Some, None, List, ◌∷◌, length, refl, ap, ◌∙◌, sym, subst}
use Rattle.std.proofs.lemmas.Bool.{or_parts}
use Rattle.lists.specs.Lists.{IsDistinct}
use Rattle.session_base.specs.Theorems.{IsFilledQueue}
use Rattle.session_base.specs.Queue.{ids_of}
use Rattle.session_base.proofs.IdentifiersStayApart.{distinct, pubrec_length}
use Rattle.broker_spec.specs.Connection.{ConnectionName}
use Rattle.broker_spec.specs.Place.{Client, Place, Past, Limits, only_if}
use Rattle.broker_spec.specs.Sessions.{ends, expels, ends_any, current_connection, clean_session_of}
use Rattle.broker_spec.specs.Subscriptions.{subscriptions_of}
use Rattle.broker_spec.specs.Received.{received_of}
use Rattle.broker_spec.specs.Retained.{retained_publications}
use Rattle.broker_spec.specs.Entries.{Entry}
use Rattle.broker_spec.specs.Readings.{waiting_of}
use Rattle.broker_spec.specs.Times.{window_at, entries_of}
use Rattle.broker_base.specs.ClientSession.{flights_below, client_session}
use Rattle.broker_base.specs.SessionStep.{session_touched}
use Rattle.broker_base.specs.Step.{IsWindow}
use Rattle.broker_spec.proofs.SoundEntries.{Sound}
use Rattle.broker_base.proofs.flights.IdentifiersInFlight.{same_ids}
use Rattle.broker_base.proofs.QueueAfter.{sound_entries}
use Rattle.broker_base.proofs.KeptAfter.{kept_with, filled_step}
use Rattle.broker_base.proofs.QuietPasts.{quiet_queue}
use Rattle.broker_base.proofs.UntouchedStays.{no_start, same_window}
use Rattle.broker_base.proofs.flights.FillsWhereItMay.{RestsAt, after_same}

apart : (n : ℕ) (es : List Entry) → Sound n es → IsDistinct (ids_of (flights_below n es))
apart n es s =
    distinct (ids_of (flights_below n es))
    (λ i. subst (λ (k : ℕ). k ≤ 1) (sym (same_ids n es s.below (λ id. i == id))) (s.unique i))

-- a connection that is left was there, and did not end
was_there : (x : ConnectionName) (over : Bool) (connection : Option ConnectionName) → only_if (not over) connection ≡ Some x → (over ≡ false) × (connection ≡ Some x)
was_there x true connection e = absurd (cc)
was_there x false connection e = (refl, e)

at_rest : (limits : Limits) (later : ℕ) → IsWindow limits later → (place : Place) (past : Past) (c : Client) → RestsAt (window_at limits (place ∷ past)) place c (client_session limits past c)
at_rest limits later follows place past c = by (clean_session_of past c)
  where
    by : (session : Option Bool) → RestsAt (window_at limits (place ∷ past)) place c
        (kept_with (length past) session (current_connection past c) (subscriptions_of past c) (received_of past c) (entries_of limits past c))
    by None = tt
    by (Some clean) = λ x e.
        let h = was_there x (ends_any place c (current_connection past c)) (current_connection past c) e in (
          subst (λ (w : ℕ). IsFilledQueue w (flights_below (length past) (entries_of limits past c)) (waiting_of (entries_of limits past c)))
              (sym (same_window limits later follows place past (no_start place.command place.mark x ((or_parts (expels place.command c) (ends place.command place.mark x) (ap (ends_any place c) (sym h.1) ∙ h.0)).1))))
              (quiet_queue limits past c x h.1),
          λ id. pubrec_length id (flights_below (length past) (entries_of limits past c)) (apart (length past) (entries_of limits past c) (sound_entries limits past c)),
        )

pub kept_step : (limits : Limits) (later : ℕ) → IsWindow limits later → (place : Place) (past : Past) (c : Client) →
    client_session limits (place ∷ past) c ≡ session_touched (window_at limits (place ∷ past)) place (retained_publications past) c (client_session limits past c)
kept_step limits later follows place past c =
    filled_step limits place past c
    ∙ after_same (window_at limits (place ∷ past)) place (retained_publications past) c (client_session limits past c) (at_rest limits later follows place past c)
