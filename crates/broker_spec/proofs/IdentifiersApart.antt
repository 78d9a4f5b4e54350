-- In a session's entries what waits is last, and no two that are in flight have one identifier.
use Rattle.std.proofs.Common.{◌≡◌, ℕ, Bool, true, false, ◌||◌, ◌==◌, nat_lt, if◌then◌else◌, List, [], ◌∷◌, ◌++◌, length, map, Option, Some, None, inl, inr, refl, ◌∙◌, ap, arith}
use Rattle.std.specs.List.{AllByRecursion}
use Rattle.broker_spec.specs.Connection.{ConnectionName}
use Rattle.broker_spec.specs.Place.{Client, Past, Limits}
use Rattle.broker_spec.specs.Sessions.{current_connection, clean_session_of, begins, in_session}
use Rattle.session_base.specs.declared.publication.Publication.{Publication}
use Rattle.lists.specs.Lists.{has_id, IsDistinct}
use Rattle.broker_spec.specs.Entries.{Entry, copies_at, queued}
use Rattle.broker_spec.specs.Readings.{busy_ids}
use Rattle.session_base.specs.Identifiers.{least_free}
use Rattle.broker_spec.specs.Times.{entries_of, window_at, start_all, started}
use Rattle.broker_spec.specs.IdentifierTheorems.{IdentifiersAreDistinct, IsWaitingEntry, WaitingAreLast, StartedComeFirst}
use Rattle.broker_spec.proofs.EntriesGrow.{Answered, Answering, answers-by}
use Rattle.broker_spec.proofs.LeastFree.{least-is-free}

-- after earlier entries that have these identifiers: none of them is used again, and after one that
-- waits all wait
abbrev pub Apart : List ℕ → List Entry → Type 0
Apart busy (Entry.Queued made p ∷ es) = AllByRecursion IsWaitingEntry es
Apart busy (Entry.Sent made p id start ∷ es) = (has_id id busy ≡ false) × Apart (id ∷ busy) es
Apart busy (Entry.Released made p id start release ∷ es) = (has_id id busy ≡ false) × Apart (id ∷ busy) es
Apart busy (Entry.Done made p id start release finish ∷ es) = Apart busy es
Apart busy [] = Unit {0}

-- what is not among the first is not among the second
abbrev pub Within : List ℕ → List ℕ → Type 0
Within fewer more = (id : ℕ) → has_id id more ≡ false → has_id id fewer ≡ false

more-by : (b x y : Bool) → (x ≡ false → y ≡ false) → b || x ≡ false → b || y ≡ false
more-by true x y h e = e
more-by false x y h e = h e

within-both : (id : ℕ) (fewer more : List ℕ) → Within fewer more → Within (id ∷ fewer) (id ∷ more)
within-both id fewer more w j e = more-by (j == id) (has_id j more) (has_id j fewer) (w j) e

drop-by : (b x : Bool) → b || x ≡ false → x ≡ false
drop-by true x e = cc
drop-by false x e = e

within-less : (id : ℕ) (fewer more : List ℕ) → Within fewer more → Within fewer (id ∷ more)
within-less id fewer more w j e = w j (drop-by (j == id) (has_id j more) e)

-- ---- an answer keeps them apart

waiting-answered : (n : ℕ) (f : Entry → Entry) → Answering n f → (es : List Entry) → AllByRecursion IsWaitingEntry es → AllByRecursion IsWaitingEntry (map f es)
waiting-answered n f a [] w = tt
waiting-answered n f a (Entry.Queued made p ∷ es) w = (rw (a (Entry.Queued made p)) tt, waiting-answered n f a es w.1)
waiting-answered n f a (Entry.Sent made p id start ∷ es) w = elim w.0 [ ]
waiting-answered n f a (Entry.Released made p id start release ∷ es) w = elim w.0 [ ]
waiting-answered n f a (Entry.Done made p id start release finish ∷ es) w = elim w.0 [ ]

apart-answered : (n : ℕ) (f : Entry → Entry) → Answering n f → (es : List Entry) (fewer more : List ℕ) → Within fewer more → Apart more es → Apart fewer (map f es)
apart-answered n f a [] fewer more w h = tt
apart-answered n f a (Entry.Queued made p ∷ es) fewer more w h = rw (a (Entry.Queued made p)) (waiting-answered n f a es h)
apart-answered n f a (Entry.Sent made p id start ∷ es) fewer more w h =
    by (a (Entry.Sent made p id start))
    (apart-answered n f a es (id ∷ fewer) (id ∷ more) (within-both id fewer more w) h.1)
    (apart-answered n f a es fewer (id ∷ more) (within-less id fewer more w) h.1)
  where
    by : Answered n (Entry.Sent made p id start) (f (Entry.Sent made p id start)) → Apart (id ∷ fewer) (map f es) → Apart fewer (map f es)
        → Apart fewer (f (Entry.Sent made p id start) ∷ map f es)
    by (inl e) on over = rw e (w id h.0, on)
    by (inr (inl e)) on over = rw e (w id h.0, on)
    by (inr (inr e)) on over = rw e over
apart-answered n f a (Entry.Released made p id start release ∷ es) fewer more w h =
    by (a (Entry.Released made p id start release))
    (apart-answered n f a es (id ∷ fewer) (id ∷ more) (within-both id fewer more w) h.1)
    (apart-answered n f a es fewer (id ∷ more) (within-less id fewer more w) h.1)
  where
    by : Answered n (Entry.Released made p id start release) (f (Entry.Released made p id start release)) → Apart (id ∷ fewer) (map f es) → Apart fewer (map f es)
        → Apart fewer (f (Entry.Released made p id start release) ∷ map f es)
    by (inl e) on over = rw e (w id h.0, on)
    by (inr e) on over = rw e over
apart-answered n f a (Entry.Done made p id start release finish ∷ es) fewer more w h =
    rw (a (Entry.Done made p id start release finish)) (apart-answered n f a es fewer more w h)

-- ---- new entries and starts keep them apart

new-wait : (n : ℕ) (ps : List Publication) → AllByRecursion IsWaitingEntry (map (Entry.Queued n) ps)
new-wait n [] = tt
new-wait n (p ∷ ps) = (tt, new-wait n ps)

waiting-more : (es more : List Entry) → AllByRecursion IsWaitingEntry es → AllByRecursion IsWaitingEntry more → AllByRecursion IsWaitingEntry (es ++ more)
waiting-more [] more w m = m
waiting-more (e ∷ es) more w m = (w.0, waiting-more es more w.1 m)

waiting-apart : (busy : List ℕ) (es : List Entry) → AllByRecursion IsWaitingEntry es → Apart busy es
waiting-apart busy [] w = tt
waiting-apart busy (Entry.Queued made p ∷ es) w = w.1
waiting-apart busy (Entry.Sent made p id start ∷ es) w = elim w.0 [ ]
waiting-apart busy (Entry.Released made p id start release ∷ es) w = elim w.0 [ ]
waiting-apart busy (Entry.Done made p id start release finish ∷ es) w = elim w.0 [ ]

apart-more : (busy : List ℕ) (es more : List Entry) → Apart busy es → AllByRecursion IsWaitingEntry more → Apart busy (es ++ more)
apart-more busy [] more h m = waiting-apart busy more m
apart-more busy (Entry.Queued made p ∷ es) more h m = waiting-more es more h m
apart-more busy (Entry.Sent made p id start ∷ es) more h m = (h.0, apart-more (id ∷ busy) es more h.1 m)
apart-more busy (Entry.Released made p id start release ∷ es) more h m = (h.0, apart-more (id ∷ busy) es more h.1 m)
apart-more busy (Entry.Done made p id start release finish ∷ es) more h m = apart-more busy es more h m

start-by : (w n : ℕ) (busy : List ℕ) (made : ℕ) (p : Publication) (es : List Entry) → AllByRecursion IsWaitingEntry es
    → Apart (least_free busy ∷ busy) (start_all w n (least_free busy ∷ busy) es) → (b : Bool)
    → Apart busy (if b then Entry.Sent made p (least_free busy) n ∷ start_all w n (least_free busy ∷ busy) es else Entry.Queued made p ∷ es)
start-by w n busy made p es h ih true = (least-is-free busy, ih)
start-by w n busy made p es h ih false = h

apart-start : (w n : ℕ) (busy : List ℕ) (es : List Entry) → Apart busy es → Apart busy (start_all w n busy es)
apart-start w n busy [] h = tt
apart-start w n busy (Entry.Queued made p ∷ es) h =
    start-by w n busy made p es h (apart-start w n (least_free busy ∷ busy) es (waiting-apart (least_free busy ∷ busy) es h)) (nat_lt (length busy) w)
apart-start w n busy (Entry.Sent made p id start ∷ es) h = (h.0, apart-start w n (id ∷ busy) es h.1)
apart-start w n busy (Entry.Released made p id start release ∷ es) h = (h.0, apart-start w n (id ∷ busy) es h.1)
apart-start w n busy (Entry.Done made p id start release finish ∷ es) h = apart-start w n busy es h

apart-started : (w n : ℕ) (current : Option ConnectionName) (es : List Entry) → Apart [] es → Apart [] (started w n current es)
apart-started w n None es h = h
apart-started w n (Some x) es h = apart-start w n [] es h

apart-kept : (session : Option Bool) (beginning : Bool) (es : List Entry) → Apart [] es → Apart [] (in_session session beginning [] es)
apart-kept (Some clean) false es h = h
apart-kept (Some clean) true es h = tt
apart-kept None beginning es h = tt

pub apart : (limits : Limits) (past : Past) (c : Client) → Apart [] (entries_of limits past c)
unfolding entries_of
apart limits [] c = tt
apart limits (place ∷ past) c =
    let by = answers-by place.command place.mark (length past) c in
    apart-kept (clean_session_of (place ∷ past) c) (begins place past c) _
    (rw (by.done_is (entries_of limits past c))
    (apart-started (window_at limits (place ∷ past)) (length past) (current_connection (place ∷ past) c) _
    (apart-more [] (map by.on_each (entries_of limits past c)) (map (Entry.Queued (length past)) (queued (copies_at place past c)))
    (apart-answered (length past) by.on_each by.answering (entries_of limits past c) [] [] (λ id e. e) (apart limits past c))
    (new-wait (length past) (queued (copies_at place past c))))))

-- ---- what that says

waiting-none : (es : List Entry) → AllByRecursion IsWaitingEntry es → busy_ids es ≡ []
waiting-none [] w = refl
waiting-none (Entry.Queued made p ∷ es) w = waiting-none es w.1
waiting-none (Entry.Sent made p id start ∷ es) w = elim w.0 [ ]
waiting-none (Entry.Released made p id start release ∷ es) w = elim w.0 [ ]
waiting-none (Entry.Done made p id start release finish ∷ es) w = elim w.0 [ ]

either-by : (same a b : Bool) → (same ≡ true → b ≡ true) → same || a ≡ true → (a ≡ true → b ≡ true) → b ≡ true
either-by true a b s e h = s refl
either-by false a b s e h = h e

or-false : (a b : Bool) → a ≡ false → b ≡ false → a || b ≡ false
or-false false b e f = f
or-false true b e f = cc

or-right : (a b : Bool) → b ≡ true → a || b ≡ true
or-right true b e = refl
or-right false b e = e

no-both : (b : Bool) → b ≡ true → b ≡ false → ⊥
no-both true e f = no f
  where
    no : true ≡ false → ⊥
    no g = cc
no-both false e f = no e
  where
    no : false ≡ true → ⊥
    no g = cc

differs : (id j : ℕ) (busy : List ℕ) → has_id id busy ≡ true → has_id j busy ≡ false → (b : Bool) → (id == j) ≡ b → b ≡ false
differs id j busy e f true s =
    let t : id ≡ j = grind (arith, s) in elim (no-both (has_id id busy) e (ap (λ z. has_id z busy) t ∙ f)) [ ]
differs id j busy e f false s = refl

unused : (busy : List ℕ) (es : List Entry) (id : ℕ) → has_id id busy ≡ true → Apart busy es → has_id id (busy_ids es) ≡ false
unused busy [] id e h = refl
unused busy (Entry.Queued made p ∷ es) id e h = ap (has_id id) (waiting-none es h)
unused busy (Entry.Sent made p j start ∷ es) id e h =
    or-false (id == j) (has_id id (busy_ids es)) (differs id j busy e h.0 (id == j) refl)
    (unused (j ∷ busy) es id (or-right (id == j) (has_id id busy) e) h.1)
unused busy (Entry.Released made p j start release ∷ es) id e h =
    or-false (id == j) (has_id id (busy_ids es)) (differs id j busy e h.0 (id == j) refl)
    (unused (j ∷ busy) es id (or-right (id == j) (has_id id busy) e) h.1)
unused busy (Entry.Done made p j start release finish ∷ es) id e h = unused busy es id e h

itself : (id : ℕ) (ids : List ℕ) → has_id id (id ∷ ids) ≡ true
itself id ids = by (id == id) (grind arith)
  where
    by : (b : Bool) → b ≡ true → b || has_id id ids ≡ true
    by true e = refl
    by false e = cc

distinct : (busy : List ℕ) (es : List Entry) → Apart busy es → IsDistinct (busy_ids es)
distinct busy [] h = tt
distinct busy (Entry.Queued made p ∷ es) h = rw (waiting-none es h) tt
distinct busy (Entry.Sent made p id start ∷ es) h = (unused (id ∷ busy) es id (itself id busy) h.1, distinct (id ∷ busy) es h.1)
distinct busy (Entry.Released made p id start release ∷ es) h = (unused (id ∷ busy) es id (itself id busy) h.1, distinct (id ∷ busy) es h.1)
distinct busy (Entry.Done made p id start release finish ∷ es) h = distinct busy es h

waits-last : (busy : List ℕ) (es : List Entry) → Apart busy es → WaitingAreLast es
waits-last busy [] h = tt
waits-last busy (Entry.Queued made p ∷ es) h = h
waits-last busy (Entry.Sent made p id start ∷ es) h = waits-last (id ∷ busy) es h.1
waits-last busy (Entry.Released made p id start release ∷ es) h = waits-last (id ∷ busy) es h.1
waits-last busy (Entry.Done made p id start release finish ∷ es) h = waits-last busy es h

pub identifiers_are_distinct : IdentifiersAreDistinct
identifiers_are_distinct limits past c = distinct [] (entries_of limits past c) (apart limits past c)

pub started_come_first : StartedComeFirst
started_come_first limits past c = waits-last [] (entries_of limits past c) (apart limits past c)
