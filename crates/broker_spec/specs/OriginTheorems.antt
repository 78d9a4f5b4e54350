-- A theorem about the origin of a session's entries (MQTT 3.3.1.3, 3.3.5).
use Rattle.std.specs.Prelude.{◌≤◌, ℕ, not, ◌&&◌, ◌==◌, Bool, length, filter}
use Rattle.broker_spec.specs.Place.{Client, Past, Limits}
use Rattle.broker_spec.specs.Entries.{Entry}
use Rattle.broker_spec.specs.Readings.{made_of, publication_in}
use Rattle.broker_spec.specs.Times.{entries_of}

-- whether the entry is the copy of the publication that was taken at this place; a copy of a
-- retained publication has RETAIN 1
abbrev pub is_from_publish : ℕ → Entry → Bool
is_from_publish place entry = (made_of entry == place) && not (publication_in entry).retain

-- a publication enters a session at most once
abbrev pub EntersOnce : Type 0
EntersOnce =
    (limits : Limits) (past : Past) (client : Client) (place : ℕ)
    → length (filter (is_from_publish place) (entries_of limits past client)) ≤ 1
