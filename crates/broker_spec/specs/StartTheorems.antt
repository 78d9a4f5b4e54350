-- A theorem about the start of an entry (MQTT 2.3.1, 4.6).
use Rattle.std.specs.Prelude.{◌≡◌, ◌≤◌, ◌<◌, ℕ, true, false, List, ◌∷◌, ◌++◌, length, is_some}
use Rattle.broker_spec.specs.Place.{Client, Place, Past, Limits}
use Rattle.broker_spec.specs.Sessions.{current_connection}
use Rattle.session_base.specs.declared.publication.Publication.{Publication}
use Rattle.lists.specs.Lists.{has_id}
use Rattle.broker_spec.specs.Entries.{Entry}
use Rattle.broker_spec.specs.Readings.{busy_ids}
use Rattle.broker_spec.specs.Times.{entries_of, window_at}

-- after these entries one may start with this identifier: fewer than the window are in flight, none
-- of them has it, and each smaller one is in use
pub record MayStart (window id : ℕ) (before : List Entry) : Type 0 where
  pub room : length (busy_ids before) < window
  pub free : has_id id (busy_ids before) ≡ false
  pub least : (smaller : ℕ) → 1 ≤ smaller → smaller < id → has_id smaller (busy_ids before) ≡ true

-- at the place where an entry starts its client is connected, the window has room, and it gets the
-- least free identifier
abbrev pub StartsWhereItMay : Type 0
StartsWhereItMay =
    (limits : Limits) (place : Place) (past : Past) (client : Client)
    (before after : List Entry) (made : ℕ) (publication : Publication) (id : ℕ)
    → entries_of limits (place ∷ past) client
    ≡ before ++ Entry.Sent made publication id (length past) ∷ after
    → (is_some (current_connection (place ∷ past) client) ≡ true)
    × MayStart (window_at limits (place ∷ past)) id before
