-- Theorems about the identifiers of a session's entries (MQTT 2.3.1, 4.6).
use Rattle.std.specs.Prelude.{◌≤◌, ℕ, List, [], ◌∷◌}
use Rattle.std.specs.List.{AllByRecursion}
use Rattle.broker_spec.specs.Place.{Client, Place, Past, Limits}
use Rattle.broker_spec.specs.Entries.{Entry}
use Rattle.broker_spec.specs.Readings.{busy_ids}
use Rattle.broker_spec.specs.Times.{entries_of, window_at}
use Rattle.broker_spec.specs.Commands.{usual_limits}
use Rattle.broker_spec.specs.Window.{wide_window}
use Rattle.lists.specs.Lists.{IsDistinct}

-- no two entries of a session that are in flight have the same identifier (MQTT 2.3.1)
abbrev pub IdentifiersAreDistinct : Type 0
IdentifiersAreDistinct =
    (limits : Limits) (past : Past) (client : Client)
    → IsDistinct (busy_ids (entries_of limits past client))

-- the window never shrinks
abbrev pub NeverShrinks : Limits → Type 0
NeverShrinks limits =
    (place : Place) (past : Past) → window_at limits past ≤ window_at limits (place ∷ past)

-- a number from 1 to the window
abbrev pub IsInWindow : ℕ → ℕ → Type 0
IsInWindow window id = (1 ≤ id) × (id ≤ window)

-- if the window never shrinks, the identifiers of what is in flight are 1 to the window
abbrev pub IdentifiersAreInTheWindow : Type 0
IdentifiersAreInTheWindow =
    (limits : Limits) → NeverShrinks limits → (past : Past) (client : Client)
    → AllByRecursion (IsInWindow (window_at limits past)) (busy_ids (entries_of limits past client))

-- in this broker the identifiers of what is in flight are 1 to 64
abbrev pub IdentifiersAreTo64 : Type 0
IdentifiersAreTo64 =
    (past : Past) (client : Client)
    → AllByRecursion (IsInWindow wide_window) (busy_ids (entries_of usual_limits past client))

-- a queued entry
abbrev pub IsWaitingEntry : Entry → Type 0
IsWaitingEntry (Entry.Queued made publication) = Unit {0}
IsWaitingEntry _ = ⊥

-- no entry after a queued one was started
abbrev pub WaitingAreLast : List Entry → Type 0
WaitingAreLast (Entry.Queued made publication ∷ entries) = AllByRecursion IsWaitingEntry entries
WaitingAreLast (_ ∷ entries) = WaitingAreLast entries
WaitingAreLast [] = Unit {0}

-- entries start in order (MQTT 4.6)
abbrev pub StartedComeFirst : Type 0
StartedComeFirst =
    (limits : Limits) (past : Past) (client : Client)
    → WaitingAreLast (entries_of limits past client)
