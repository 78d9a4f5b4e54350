-- The session of one client in a broker's state, and the one that a past leads to (MQTT 3.1.2.4,
-- 4.1, 4.4).
use Rattle.std.specs.Prelude.{ℕ, Bool, List, [], ◌∷◌, ◌++◌, length, map, Option, option_map}
use Rattle.session_base.specs.Session.{SessionState}
use Rattle.session_base.specs.declared.awaits.Awaits.TheVariants as waits_for
use Rattle.session_base.specs.Queue.{Flight, Queue, awaited}
use Rattle.broker_spec.specs.Connection.{ConnectionName}
use Rattle.broker_spec.specs.Place.{Client, Past, Limits}
use Rattle.broker_spec.specs.Sessions.{current_connection, clean_session_of}
use Rattle.broker_spec.specs.Subscriptions.{subscriptions_of}
use Rattle.broker_spec.specs.Received.{received_of}
use Rattle.broker_spec.specs.Entries.{Entry}
use Rattle.broker_spec.specs.Readings.{released_below, waiting_of}
use Rattle.broker_spec.specs.Times.{entries_of}

-- a client's session: its CleanSession flag, the client's current connection, and its contents
pub record ClientSession : Type 0 where
  pub clean : Bool
  pub connection : Option ConnectionName
  pub state : SessionState

-- the entries in flight that are neither released nor done
abbrev pub sent_flights : List Entry → List Flight
sent_flights (Entry.Sent made publication id start ∷ entries) =
    (id, awaited publication) ∷ sent_flights entries
sent_flights (_ ∷ entries) = sent_flights entries
sent_flights [] = []

-- the entry in flight of a released identifier
abbrev pub released_flight : ℕ → Flight
released_flight id = (id, waits_for.Pubcomp)

-- the entries in flight: first the released ones, which were released below this place, in the
-- order of release; then the sent ones
abbrev pub flights_below : ℕ → List Entry → List Flight
flights_below place entries =
    map released_flight (released_below place entries) ++ sent_flights entries

-- the queue of a session with these entries, none of them released at this place or later
abbrev pub queue_of : ℕ → List Entry → Queue
queue_of place entries =
    record { in_flight = flights_below place entries; waiting = waiting_of entries }

-- the session to which a past leads a client, if it has one
abbrev pub client_session : Limits → Past → Client → Option ClientSession
client_session limits past client =
    option_map
    (λ clean. record {
      clean = clean;
      connection = current_connection past client;
      state = record {
        subscriptions = subscriptions_of past client;
        received = received_of past client;
        queue = queue_of (length past) (entries_of limits past client);
      };
    })
    (clean_session_of past client)
