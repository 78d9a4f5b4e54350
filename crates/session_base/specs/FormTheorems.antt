-- A frozen session is read as that session, and a session that was read is frozen to the same
-- bytes.
use Rattle.std.specs.Prelude.{◌≡◌, ℕ, ◌≤◌, List, ◌++◌, length, Ok, IfOk}
use Rattle.std.specs.List.{AllByRecursion}
use Rattle.std.specs.List.Sorted.{IsStrictlySortedBy}
use Rattle.std.specs.Ordering.{nat_cmp}
use Rattle.packet_base.specs.Spelling.{IsId}
use Rattle.packet_base.specs.Readers.{AreBytes}
use Rattle.lists.specs.Lists.{IsDistinct}
use Rattle.session_base.specs.KeepingTheorems.{AreFiltersApart}
use Rattle.session_base.specs.OrderTheorems.{IsReleasedFirst}
use Rattle.session_base.specs.Queue.{ids_of}
use Rattle.session_base.specs.Session.{SessionState, max_entries, max_subscriptions}
use Rattle.session_base.specs.InRange.{IsGrantedSubscription, IsQueue}
use Rattle.session_base.specs.Form.{state_bytes}
use Rattle.session_base.specs.SessionForm.{state_at}

-- a session that has a form: each filter once, ascending received identifiers, distinct identifiers
-- in flight, the released entries first, no more of each than the limits, and each in its range
pub record HasForm (session : SessionState) : Type 0 where
  pub filters_apart : AreFiltersApart session.subscriptions
  pub filters : AllByRecursion IsGrantedSubscription session.subscriptions
  pub few_filters : length session.subscriptions ≤ max_subscriptions
  pub rising : IsStrictlySortedBy nat_cmp session.received
  pub received : AllByRecursion IsId session.received
  pub distinct : IsDistinct (ids_of session.queue.in_flight)
  pub released_first : IsReleasedFirst session.queue.in_flight
  pub queue : IsQueue max_entries session.queue

-- no more of its entries are in flight than the window allows
abbrev pub FitsIn : ℕ → SessionState → Type 0
FitsIn window session = length session.queue.in_flight ≤ window

-- a frozen session is read as it was, whatever bytes follow, with any window that its entries in
-- flight fit in
abbrev pub FrozenIsRead : Type 0
FrozenIsRead =
    (window : ℕ) → window ≤ max_entries → (session : SessionState) (rest : List ℕ) →
    HasForm session → FitsIn window session →
    state_at window (state_bytes session ++ rest) ≡ Ok (session, rest)

-- a session that was read has a form
abbrev pub ReadHasForm : Type 0
ReadHasForm =
    (window : ℕ) → window ≤ max_entries → (bytes : List ℕ) → AreBytes bytes →
    IfOk (state_at window bytes) (λ read. HasForm read.0 × FitsIn window read.0 × AreBytes read.1)

-- a session that was read is frozen to the bytes that were read
abbrev pub ReadIsFrozen : Type 0
ReadIsFrozen =
    (window : ℕ) → (bytes : List ℕ) → AreBytes bytes
    → IfOk (state_at window bytes) (λ read. bytes ≡ state_bytes read.0 ++ read.1)
