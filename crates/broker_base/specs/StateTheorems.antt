-- The invariants of a state, which each step preserves: each client occurs once, a connection
-- belongs to at most one session, and each session is sound.
use Rattle.std.specs.Prelude.{◌≡◌, ℕ, ◌≤◌, ◌⊎◌, true, false, List, [], ◌∷◌, length, Some}
use Rattle.std.specs.Prelude.{None, is_some}
use Rattle.std.specs.List.{AllByRecursion}
use Rattle.std.specs.List.Sorted.{IsStrictlySortedBy}
use Rattle.std.specs.Map.{keys_of}
use Rattle.std.specs.Ordering.{nat_cmp}
use Rattle.session_base.specs.Queue.{ids_of}
use Rattle.lists.specs.Lists.{IsDistinct}
use Rattle.session_base.specs.Theorems.{IsFilledQueue}
use Rattle.session_base.specs.OrderTheorems.{IsReleasedFirst}
use Rattle.session_base.specs.KeepingTheorems.{AreFiltersApart}
use Rattle.broker_spec.specs.Connection.{ConnectionName, same_connection}
use Rattle.broker_spec.specs.Place.{by_bytes, Limits}
use Rattle.broker_spec.specs.Sessions.{any_connection}
use Rattle.broker_base.specs.ClientSession.{ClientSession}
use Rattle.broker_base.specs.State.{Sessions, State, empty_state}
use Rattle.broker_base.specs.Step.{step, state_from}
use Rattle.broker_spec.specs.declared.command.Command.{Command}

-- ---- one session

-- Each filter occurs once, received identifiers are ascending, those in flight are distinct,
-- released entries come first, and a clean session has a connection (MQTT 2.3.1, 3.1.2.4, 3.8.4,
-- 4.4).
pub record IsSoundSession (kept : ClientSession) : Type 0 where
  pub filters : AreFiltersApart kept.state.subscriptions
  pub received : IsStrictlySortedBy nat_cmp kept.state.received
  pub identifiers : IsDistinct (ids_of kept.state.queue.in_flight)
  pub released_first : IsReleasedFirst kept.state.queue.in_flight
  pub served : kept.clean ≡ true → is_some kept.connection ≡ true

-- if the client is connected, no publication waits in its queue or the window is full
abbrev pub HasFilledQueue : ℕ → ClientSession → Type 0
HasFilledQueue window kept =
    (kept.connection ≡ None)
    ⊎ IsFilledQueue window kept.state.queue.in_flight kept.state.queue.waiting

-- no more entries of a session are in flight than the window allows
abbrev pub FitsWindow : ℕ → ClientSession → Type 0
FitsWindow window kept = length kept.state.queue.in_flight ≤ window

-- ---- all sessions

-- each session is sound
abbrev pub AllSound : Sessions → Type 0
AllSound rows = AllByRecursion (λ row. IsSoundSession row.1) rows

-- each connected client's queue is filled
abbrev pub AllFilled : ℕ → Sessions → Type 0
AllFilled window rows = AllByRecursion (λ row. HasFilledQueue window row.1) rows

-- no more entries of a session are in flight than the window allows
abbrev pub AllInWindow : ℕ → Sessions → Type 0
AllInWindow window rows = AllByRecursion (λ row. FitsWindow window row.1) rows

-- the sessions are ordered by the bytes of their clients, each client once
abbrev pub AreByClient : Sessions → Type 0
AreByClient rows = IsStrictlySortedBy by_bytes (keys_of rows)

-- the connection is not that of any of these sessions
abbrev pub IsNobodys : ConnectionName → Sessions → Type 0
IsNobodys connection (row ∷ rows) =
    (any_connection (same_connection connection) row.1.connection ≡ false)
    × IsNobodys connection rows
IsNobodys connection [] = Unit {0}

-- a connection belongs to at most one session
abbrev pub ConnectionsAreApart : Sessions → Type 0
ConnectionsAreApart (row ∷ rows) =
    ((connection : ConnectionName) → row.1.connection ≡ Some connection
    → IsNobodys connection rows)
    × ConnectionsAreApart rows
ConnectionsAreApart [] = Unit {0}

-- ---- the state

-- the invariants of a broker's state
pub record IsSound (state : State) : Type 0 where
  pub by_client : AreByClient state.sessions
  pub apart : ConnectionsAreApart state.sessions
  pub sessions : AllSound state.sessions

-- a step keeps a state sound
abbrev pub StaysSound : Type 0
StaysSound =
    (limits : Limits) → (later : ℕ) → (state : State) → (command : Command) → IsSound state →
    IsSound (step limits later state command).0

-- a step keeps the queues filled if they were
abbrev pub StaysFilled : Type 0
StaysFilled =
    (limits : Limits) → (later : ℕ) → (state : State) → (command : Command) → IsSound state →
    AllFilled state.window state.sessions →
    AllFilled (step limits later state command).0.window
    (step limits later state command).0.sessions

-- a step leaves no more entries in flight than the window allows, if the window does not shrink
abbrev pub StaysInWindow : Type 0
StaysInWindow =
    (limits : Limits) → (later : ℕ) → (state : State) → (command : Command) → state.window ≤ later →
    IsSound state →
    AllInWindow state.window state.sessions →
    AllInWindow (step limits later state command).0.window
    (step limits later state command).0.sessions

-- the state of every list of commands is sound, and its queues are filled
abbrev pub ListsAreSound : Type 0
ListsAreSound =
    (limits : Limits) → (later : ℕ) → (window : ℕ) → (commands : List Command) →
    IsSound (state_from limits later (empty_state window) commands)
    × AllFilled (state_from limits later (empty_state window) commands).window
    (state_from limits later (empty_state window) commands).sessions
