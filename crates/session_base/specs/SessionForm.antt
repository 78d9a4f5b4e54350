-- How a session is read from its bytes. It is the same in both forms, except the window.
use Rattle.std.specs.Prelude.{ℕ, ◌-◌, List}
use Rattle.std.specs.Prelude.{length, Result, Ok}
use Rattle.packet_base.specs.declared.stop.Stop.{Stop}
use Rattle.packet_base.specs.Readers.{◌>>=◌, ◌>>◌, byte_at, number_at, id_at}
use Rattle.session_base.specs.Identifiers.{max_id}
use Rattle.session_base.specs.Session.{SessionState, max_entries, max_subscriptions}
use Rattle.session_base.specs.Counted.{counted_items_at}
use Rattle.session_base.specs.Follows.{is_new_filter, is_above}
use Rattle.session_base.specs.Follows.{may_follow, anything}
use Rattle.session_base.specs.Form.{granted_subscription_at, waiting_at, flight_at}

-- at most 64 subscriptions, no more entries in flight than this window, and 4,096 entries in flight
-- and waiting
unfoldable pub state_at : ℕ → List ℕ → Result (SessionState × List ℕ) Stop
state_at window bytes = do
  subscriptions ← counted_items_at byte_at is_new_filter granted_subscription_at
      max_subscriptions bytes
  received ← counted_items_at number_at is_above id_at max_id subscriptions.1
  in_flight ← counted_items_at number_at may_follow flight_at window received.1
  waiting ← counted_items_at number_at anything waiting_at
      (max_entries - length in_flight.0) in_flight.1
  Ok (
    record {
      subscriptions = subscriptions.0;
      received = received.0;
      queue = record { in_flight = in_flight.0; waiting = waiting.0 };
    },
    waiting.1,
  )
