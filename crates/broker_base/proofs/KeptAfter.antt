-- After one more command what is kept of a client's session is the step of what was kept before, for every place.
use Rattle.std.proofs.Common.{◌≡◌, ℕ, zero, suc, Bool, true, false, not, ◌&&◌, ◌||◌, if◌then◌else◌, Option, Some, None, List, [], ◌∷◌, ◌++◌, length, map, refl, ap, ◌∙◌}
use Rattle.std.specs.Prelude.{option_map}
use Rattle.session_base.specs.Subscriptions.{GrantedSubscription}
use Rattle.retained.specs.Retained.{RetainedTopics}
use Rattle.session_base.specs.declared.publication.Publication.{Publication}
use Rattle.broker_spec.specs.Connection.{ConnectionName}
use Rattle.broker_spec.specs.Place.{Client, Place, Past, Limits, only_if}
use Rattle.broker_spec.specs.Sessions.{accepts, expels, ends_any, newest_connection, current_connection, newest_clean_session, clean_session_of, is_beginning, in_session}
use Rattle.broker_spec.specs.Subscriptions.{subscriptions_after, subscriptions_of}
use Rattle.broker_spec.specs.Received.{received_by, received_of}
use Rattle.broker_spec.specs.Retained.{retained_publications}
use Rattle.broker_spec.specs.Entries.{Entry, queued}
use Rattle.broker_spec.specs.Readings.{released_below}
use Rattle.broker_spec.specs.Times.{answered_by, started, window_at, entries_of}
use Rattle.broker_base.specs.ClientSession.{ClientSession, released_flight, queue_of, client_session}
use Rattle.broker_base.specs.SessionStep.{copies_with, session_anew}
use Rattle.broker_base.proofs.flights.FillingAlways.{filled_kept, filled_by, filled_after}
use Rattle.broker_spec.proofs.SoundEntries.{Sound}
use Rattle.broker_base.proofs.flights.IdentifiersInFlight.{append_none}
use Rattle.broker_base.proofs.QueueAfter.{sound_entries, queue_after, copies_are}

-- ---- the record

-- what is kept, of plain values
abbrev pub kept_with : ℕ → Option Bool → Option ConnectionName → List GrantedSubscription → List ℕ → List Entry → Option ClientSession
kept_with n session connection held ids es =
    option_map (λ clean. record { clean = clean; connection = connection; state = record { subscriptions = held; received = ids; queue = queue_of n es } }) session

-- what is kept of a client that has a session
abbrev pub kept_now : Limits → Past → Client → Bool → ClientSession
kept_now limits past c clean =
    record {
      clean = clean;
      connection = current_connection past c;
      state = record {
        subscriptions = subscriptions_of past c;
        received = received_of past c;
        queue = queue_of (length past) (entries_of limits past c);
      };
    }

none_in_flight : (n : ℕ) → released_below n [] ≡ []
none_in_flight zero = refl
none_in_flight (suc n) = append_none (released_below n []) ∙ none_in_flight n

anew : (n : ℕ) (opened : ConnectionName × Bool) → kept_with n (Some opened.1) (Some opened.0) [] [] [] ≡ Some (session_anew opened)
anew n opened = ap (λ ids. Some (record { clean = opened.1; connection = Some opened.0; state = record { subscriptions = []; received = []; queue = record { in_flight = map released_flight ids ++ []; waiting = [] } } })) (none_in_flight n)

-- the place's values, from those below
abbrev pub kept_next : ℕ → Place → ℕ → Client → Option (ConnectionName × Bool) → Option Bool → Option ConnectionName → List GrantedSubscription → List ℕ → List Entry → List Publication → Option ClientSession
kept_next w place n c opened session connection held ids es ps =
    kept_with (suc n) (newest_clean_session opened (expels place.command c) (ends_any place c connection) session) (newest_connection opened (ends_any place c connection) connection)
    (in_session (newest_clean_session opened (expels place.command c) (ends_any place c connection) session) (is_beginning opened session) [] (subscriptions_after place.command place.mark c held))
    (in_session (newest_clean_session opened (expels place.command c) (ends_any place c connection) session) (is_beginning opened session) [] (received_by place.command place.mark c ids))
    (in_session (newest_clean_session opened (expels place.command c) (ends_any place c connection) session) (is_beginning opened session) []
    (started w n (newest_connection opened (ends_any place c connection) connection) (answered_by place.command place.mark n c es ++ map (Entry.Queued n) ps)))

next_is : (w : ℕ) (place : Place) (content : RetainedTopics) (n : ℕ) (c : Client) (opened : Option (ConnectionName × Bool)) (session : Option Bool) (connection : Option ConnectionName)
    (held : List GrantedSubscription) (ids : List ℕ) (es : List Entry) → Sound n es →
    kept_next w place n c opened session connection held ids es (queued (copies_with place.command place.mark content c held))
    ≡ filled_by w place content c opened (kept_with n session connection held ids es)
next_is w place content n c None None connection held ids es s = refl
next_is w place content n c None (Some clean) connection held ids es s = by (expels place.command c || (clean && ends_any place c connection))
  where
    by : (b : Bool) →
        kept_with (suc n) (only_if (not b) (Some clean)) (only_if (not (ends_any place c connection)) connection)
        (in_session (only_if (not b) (Some clean)) false [] (subscriptions_after place.command place.mark c held))
        (in_session (only_if (not b) (Some clean)) false [] (received_by place.command place.mark c ids))
        (in_session (only_if (not b) (Some clean)) false []
        (started w n (only_if (not (ends_any place c connection)) connection) (answered_by place.command place.mark n c es ++ map (Entry.Queued n) (queued (copies_with place.command place.mark content c held)))))
        ≡ only_if (not b) (Some (filled_kept w place content c clean (only_if (not (ends_any place c connection)) connection)
        (record { clean = clean; connection = connection; state = record { subscriptions = held; received = ids; queue = queue_of n es } })))
    by true = refl
    by false = ap (λ q. Some (record { clean = clean; connection = only_if (not (ends_any place c connection)) connection; state = record { subscriptions = subscriptions_after place.command place.mark c held; received = received_by place.command place.mark c ids; queue = q } }))
        (queue_after w place.command place.mark n c (only_if (not (ends_any place c connection)) connection) es (queued (copies_with place.command place.mark content c held)) s)
next_is w place content n c (Some opened) None connection held ids es s = anew (suc n) opened
next_is w place content n c (Some opened) (Some clean) connection held ids es s = by (opened.1 || clean)
  where
    by : (b : Bool) →
        kept_with (suc n) (Some opened.1) (Some opened.0)
        (in_session (Some opened.1) b [] (subscriptions_after place.command place.mark c held))
        (in_session (Some opened.1) b [] (received_by place.command place.mark c ids))
        (in_session (Some opened.1) b []
        (started w n (Some opened.0) (answered_by place.command place.mark n c es ++ map (Entry.Queued n) (queued (copies_with place.command place.mark content c held)))))
        ≡ Some (if b then session_anew opened else filled_kept w place content c opened.1 (Some opened.0)
        (record { clean = clean; connection = connection; state = record { subscriptions = held; received = ids; queue = queue_of n es } }))
    by true = anew (suc n) opened
    by false = ap (λ q. Some (record { clean = opened.1; connection = Some opened.0; state = record { subscriptions = subscriptions_after place.command place.mark c held; received = received_by place.command place.mark c ids; queue = q } }))
        (queue_after w place.command place.mark n c (Some opened.0) es (queued (copies_with place.command place.mark content c held)) s)

pub filled_step : (limits : Limits) (place : Place) (past : Past) (c : Client) →
    client_session limits (place ∷ past) c ≡ filled_after (window_at limits (place ∷ past)) place (retained_publications past) c (client_session limits past c)
unfolding current_connection clean_session_of subscriptions_of received_of entries_of
filled_step limits place past c =
    ap (λ ps. kept_next (window_at limits (place ∷ past)) place (length past) c (accepts place.command place.mark c) (clean_session_of past c) (current_connection past c)
    (subscriptions_of past c) (received_of past c) (entries_of limits past c) (queued ps))
    (copies_are place.command place.mark past c)
    ∙ next_is (window_at limits (place ∷ past)) place (retained_publications past) (length past) c (accepts place.command place.mark c) (clean_session_of past c) (current_connection past c)
    (subscriptions_of past c) (received_of past c) (entries_of limits past c) (sound_entries limits past c)
