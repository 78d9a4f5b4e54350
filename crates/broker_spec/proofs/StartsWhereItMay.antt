-- An entry that starts at a place has a connection there, room in the window, and the least free identifier.
use Rattle.std.proofs.Common.{◌≡◌, ℕ, suc, ◌≤◌, ◌<◌, ◌+◌, Bool, true, false, ◌||◌, ◌==◌, nat_lt, if◌then◌else◌, List, [], ◌∷◌, ◌++◌, length, map, Option, Some, None, inl, inr, refl, sym, ◌∙◌, arith}
use Rattle.std.specs.Prelude.{is_some}
use Rattle.broker_spec.specs.Connection.{ConnectionName}
use Rattle.broker_spec.specs.Place.{Client, Past, Limits}
use Rattle.broker_spec.specs.Sessions.{current_connection, clean_session_of, begins, in_session}
use Rattle.session_base.specs.declared.publication.Publication.{Publication}
use Rattle.lists.specs.Lists.{has_id}
use Rattle.broker_spec.specs.Entries.{Entry, copies_at, queued}
use Rattle.broker_spec.specs.Readings.{busy_ids}
use Rattle.session_base.specs.Identifiers.{least_free}
use Rattle.broker_spec.specs.Times.{entries_of, window_at, start_all, started}
use Rattle.broker_spec.specs.StartTheorems.{MayStart, StartsWhereItMay}
use Rattle.broker_spec.proofs.EntriesGrow.{Answered, Answering, answers-by}
use Rattle.broker_spec.proofs.LeastFree.{least-is-free, smaller-are-busy}

-- ---- what is started did so below place n

abbrev pub Before : ℕ → List Entry → Type 0
Before n (Entry.Sent made p id start ∷ es) = (start < n) × Before n es
Before n (Entry.Queued made p ∷ es) = Before n es
Before n (Entry.Released made p id start release ∷ es) = Before n es
Before n (Entry.Done made p id start release finish ∷ es) = Before n es
Before n [] = Unit {0}

before-answered : (n m : ℕ) (f : Entry → Entry) → Answering n f → (es : List Entry) → Before m es → Before m (map f es)
before-answered n m f a [] h = tt
before-answered n m f a (Entry.Queued made p ∷ es) h = rw (a (Entry.Queued made p)) (before-answered n m f a es h)
before-answered n m f a (Entry.Sent made p id start ∷ es) h = by (a (Entry.Sent made p id start)) (before-answered n m f a es h.1)
  where
    by : Answered n (Entry.Sent made p id start) (f (Entry.Sent made p id start)) → Before m (map f es) → Before m (f (Entry.Sent made p id start) ∷ map f es)
    by (inl e) ih = rw e (h.0, ih)
    by (inr (inl e)) ih = rw e ih
    by (inr (inr e)) ih = rw e ih
before-answered n m f a (Entry.Released made p id start release ∷ es) h = by (a (Entry.Released made p id start release)) (before-answered n m f a es h)
  where
    by : Answered n (Entry.Released made p id start release) (f (Entry.Released made p id start release)) → Before m (map f es) → Before m (f (Entry.Released made p id start release) ∷ map f es)
    by (inl e) ih = rw e ih
    by (inr e) ih = rw e ih
before-answered n m f a (Entry.Done made p id start release finish ∷ es) h = rw (a (Entry.Done made p id start release finish)) (before-answered n m f a es h)

before-new : (n m : ℕ) (ps : List Publication) → Before m (map (Entry.Queued n) ps)
before-new n m [] = tt
before-new n m (p ∷ ps) = before-new n m ps

before-more : (n m : ℕ) (es : List Entry) (ps : List Publication) → Before m es → Before m (es ++ map (Entry.Queued n) ps)
before-more n m [] ps h = before-new n m ps
before-more n m (Entry.Queued made p ∷ es) ps h = before-more n m es ps h
before-more n m (Entry.Sent made p id start ∷ es) ps h = (h.0, before-more n m es ps h.1)
before-more n m (Entry.Released made p id start release ∷ es) ps h = before-more n m es ps h
before-more n m (Entry.Done made p id start release finish ∷ es) ps h = before-more n m es ps h

before-later : (n : ℕ) (es : List Entry) → Before n es → Before (suc n) es
before-later n [] h = tt
before-later n (Entry.Queued made p ∷ es) h = before-later n es h
before-later n (Entry.Sent made p id start ∷ es) h = ((let g = h.0 in omega (arith, g)), before-later n es h.1)
before-later n (Entry.Released made p id start release ∷ es) h = before-later n es h
before-later n (Entry.Done made p id start release finish ∷ es) h = before-later n es h

start-by : (w n : ℕ) (busy : List ℕ) (made : ℕ) (p : Publication) (es : List Entry) → Before (suc n) es → Before (suc n) (start_all w n (least_free busy ∷ busy) es)
    → (b : Bool) → Before (suc n) (if b then Entry.Sent made p (least_free busy) n ∷ start_all w n (least_free busy ∷ busy) es else Entry.Queued made p ∷ es)
start-by w n busy made p es h ih true = (omega arith, ih)
start-by w n busy made p es h ih false = h

before-start : (w n : ℕ) (busy : List ℕ) (es : List Entry) → Before (suc n) es → Before (suc n) (start_all w n busy es)
before-start w n busy [] h = tt
before-start w n busy (Entry.Queued made p ∷ es) h = start-by w n busy made p es h (before-start w n (least_free busy ∷ busy) es h) (nat_lt (length busy) w)
before-start w n busy (Entry.Sent made p id start ∷ es) h = (h.0, before-start w n (id ∷ busy) es h.1)
before-start w n busy (Entry.Released made p id start release ∷ es) h = before-start w n (id ∷ busy) es h
before-start w n busy (Entry.Done made p id start release finish ∷ es) h = before-start w n busy es h

before-started : (w n : ℕ) (current : Option ConnectionName) (es : List Entry) → Before (suc n) es → Before (suc n) (started w n current es)
before-started w n None es h = h
before-started w n (Some x) es h = before-start w n [] es h

before-kept : (n : ℕ) (session : Option Bool) (beginning : Bool) (es : List Entry) → Before n es → Before n (in_session session beginning [] es)
before-kept n (Some clean) false es h = h
before-kept n (Some clean) true es h = tt
before-kept n None beginning es h = tt

started-before : (limits : Limits) (past : Past) (c : Client) → Before (length past) (entries_of limits past c)
unfolding entries_of
started-before limits [] c = tt
started-before limits (place ∷ past) c =
    let by = answers-by place.command place.mark (length past) c in
    before-kept (suc (length past)) (clean_session_of (place ∷ past) c) (begins place past c) _
    (rw (by.done_is (entries_of limits past c))
    (before-started (window_at limits (place ∷ past)) (length past) (current_connection (place ∷ past) c) _
    (before-later (length past) (map by.on_each (entries_of limits past c) ++ map (Entry.Queued (length past)) (queued (copies_at place past c)))
    (before-more (length past) (length past) (map by.on_each (entries_of limits past c)) (queued (copies_at place past c))
    (before-answered (length past) (length past) by.on_each by.answering (entries_of limits past c) (started-before limits past c))))))

-- ---- what starts at place n

-- after entries with these identifiers in flight, each that starts at n has room and the least free
-- identifier
pub record Rightly (w id : ℕ) (busy : List ℕ) : Type 0 where
  pub room : length busy < w
  pub free : has_id id busy ≡ false
  pub least : (j : ℕ) → 1 ≤ j → j < id → has_id j busy ≡ true

abbrev pub AllRightly : ℕ → ℕ → List ℕ → List Entry → Type 0
AllRightly w n busy (Entry.Sent made p id start ∷ es) = (start ≡ n → Rightly w id busy) × AllRightly w n (id ∷ busy) es
AllRightly w n busy (Entry.Queued made p ∷ es) = AllRightly w n busy es
AllRightly w n busy (Entry.Released made p id start release ∷ es) = AllRightly w n (id ∷ busy) es
AllRightly w n busy (Entry.Done made p id start release finish ∷ es) = AllRightly w n busy es
AllRightly w n busy [] = Unit {0}

not-here : (w n id start : ℕ) (busy : List ℕ) → start < n → start ≡ n → Rightly w id busy
not-here w n id start busy l e = elim (never l e) [ ]
  where
    never : start < n → start ≡ n → ⊥
    never a b = omega (arith, a, b)

none-here : (w n : ℕ) (busy : List ℕ) (es : List Entry) → Before n es → AllRightly w n busy es
none-here w n busy [] h = tt
none-here w n busy (Entry.Queued made p ∷ es) h = none-here w n busy es h
none-here w n busy (Entry.Sent made p id start ∷ es) h = (not-here w n id start busy h.0, none-here w n (id ∷ busy) es h.1)
none-here w n busy (Entry.Released made p id start release ∷ es) h = none-here w n (id ∷ busy) es h
none-here w n busy (Entry.Done made p id start release finish ∷ es) h = none-here w n busy es h

rightly-by : (w n : ℕ) (busy : List ℕ) (made : ℕ) (p : Publication) (es : List Entry) → Before n es → AllRightly w n (least_free busy ∷ busy) (start_all w n (least_free busy ∷ busy) es)
    → (b : Bool) → nat_lt (length busy) w ≡ b
    → AllRightly w n busy (if b then Entry.Sent made p (least_free busy) n ∷ start_all w n (least_free busy ∷ busy) es else Entry.Queued made p ∷ es)
rightly-by w n busy made p es h ih true e =
    ((λ here. record { room = grind (arith, e); free = least-is-free busy; least = smaller-are-busy busy }), ih)
rightly-by w n busy made p es h ih false e = none-here w n busy es h

rightly : (w n : ℕ) (busy : List ℕ) (es : List Entry) → Before n es → AllRightly w n busy (start_all w n busy es)
rightly w n busy [] h = tt
rightly w n busy (Entry.Queued made p ∷ es) h = rightly-by w n busy made p es h (rightly w n (least_free busy ∷ busy) es h) (nat_lt (length busy) w) refl
rightly w n busy (Entry.Sent made p id start ∷ es) h = (not-here w n id start busy h.0, rightly w n (id ∷ busy) es h.1)
rightly w n busy (Entry.Released made p id start release ∷ es) h = rightly w n (id ∷ busy) es h
rightly w n busy (Entry.Done made p id start release finish ∷ es) h = rightly w n busy es h

-- ---- at the entry itself

-- these identifiers, the last of the entries first, in front of others
abbrev pub passed : List ℕ → List Entry → List ℕ
passed busy (Entry.Sent made p id start ∷ es) = passed (id ∷ busy) es
passed busy (Entry.Released made p id start release ∷ es) = passed (id ∷ busy) es
passed busy (Entry.Queued made p ∷ es) = passed busy es
passed busy (Entry.Done made p id start release finish ∷ es) = passed busy es
passed busy [] = busy

right-here : (w n : ℕ) (busy : List ℕ) (before after : List Entry) (made : ℕ) (p : Publication) (id : ℕ)
    → AllRightly w n busy (before ++ Entry.Sent made p id n ∷ after) → Rightly w id (passed busy before)
right-here w n busy [] after made p id h = h.0 refl
right-here w n busy (Entry.Queued m q ∷ es) after made p id h = right-here w n busy es after made p id h
right-here w n busy (Entry.Sent m q i start ∷ es) after made p id h = right-here w n (i ∷ busy) es after made p id h.1
right-here w n busy (Entry.Released m q i start release ∷ es) after made p id h = right-here w n (i ∷ busy) es after made p id h
right-here w n busy (Entry.Done m q i start release finish ∷ es) after made p id h = right-here w n busy es after made p id h

swapped : (a b c : Bool) → (a || b) || c ≡ b || (a || c)
swapped true true c = refl
swapped true false c = refl
swapped false true c = refl
swapped false false c = refl

false-or : (a : Bool) → a ≡ a || false
false-or true = refl
false-or false = refl

passed-has : (j : ℕ) (busy : List ℕ) (es : List Entry) → has_id j (passed busy es) ≡ has_id j busy || has_id j (busy_ids es)
passed-has j busy [] = false-or (has_id j busy)
passed-has j busy (Entry.Queued made p ∷ es) = passed-has j busy es
passed-has j busy (Entry.Sent made p id start ∷ es) = passed-has j (id ∷ busy) es ∙ swapped (j == id) (has_id j busy) (has_id j (busy_ids es))
passed-has j busy (Entry.Released made p id start release ∷ es) = passed-has j (id ∷ busy) es ∙ swapped (j == id) (has_id j busy) (has_id j (busy_ids es))
passed-has j busy (Entry.Done made p id start release finish ∷ es) = passed-has j busy es

passed-length : (busy : List ℕ) (es : List Entry) → length (passed busy es) ≡ length busy + length (busy_ids es)
passed-length busy [] = omega arith
passed-length busy (Entry.Queued made p ∷ es) = passed-length busy es
passed-length busy (Entry.Sent made p id start ∷ es) = let h = passed-length (id ∷ busy) es in omega (arith, h)
passed-length busy (Entry.Released made p id start release ∷ es) = let h = passed-length (id ∷ busy) es in omega (arith, h)
passed-length busy (Entry.Done made p id start release finish ∷ es) = passed-length busy es

may-start : (w id : ℕ) (before : List Entry) → Rightly w id (passed [] before) → MayStart w id before
may-start w id before r =
    record {
      room = (let l = passed-length [] before in let m = r.room in omega (arith, l, m));
      free = sym (passed-has id [] before) ∙ r.free;
      least = λ j a b. sym (passed-has j [] before) ∙ r.least j a b;
    }

too-early : (n : ℕ) (before after : List Entry) (made : ℕ) (p : Publication) (id : ℕ) → Before n (before ++ Entry.Sent made p id n ∷ after) → ⊥
too-early n [] after made p id h = let g = h.0 in omega (arith, g)
too-early n (Entry.Queued m q ∷ es) after made p id h = too-early n es after made p id h
too-early n (Entry.Sent m q i start ∷ es) after made p id h = too-early n es after made p id h.1
too-early n (Entry.Released m q i start release ∷ es) after made p id h = too-early n es after made p id h
too-early n (Entry.Done m q i start release finish ∷ es) after made p id h = too-early n es after made p id h

-- what a place leaves, from entries that started below it
abbrev pub Starts : ℕ → ℕ → Option ConnectionName → List Entry → Type 0
Starts w n current es =
    (before after : List Entry) (made : ℕ) (p : Publication) (id : ℕ) → es ≡ before ++ Entry.Sent made p id n ∷ after
    → (is_some current ≡ true) × MayStart w id before

starts-online : (w n : ℕ) (x : ConnectionName) (es : List Entry) → Before n es → Starts w n (Some x) (start_all w n [] es)
starts-online w n x es h before after made p id e =
    (refl, may-start w id before (right-here w n [] before after made p id (rw e at (rightly w n [] es h))))

starts-offline : (w n : ℕ) (es : List Entry) → Before n es → Starts w n None es
starts-offline w n es h before after made p id e = elim (too-early n before after made p id (rw e at h)) [ ]

starts : (w n : ℕ) (current : Option ConnectionName) (es : List Entry) → Before n es → Starts w n current (started w n current es)
starts w n None es h = starts-offline w n es h
starts w n (Some x) es h = starts-online w n x es h

nothing-there : (w n : ℕ) (current : Option ConnectionName) → Starts w n current []
nothing-there w n current [] after made p id e = cc
nothing-there w n current (b ∷ before) after made p id e = cc

starts-kept : (w n : ℕ) (current : Option ConnectionName) (session : Option Bool) (beginning : Bool) (es : List Entry)
    → Starts w n current es → Starts w n current (in_session session beginning [] es)
starts-kept w n current (Some clean) false es h = h
starts-kept w n current (Some clean) true es h = nothing-there w n current
starts-kept w n current None beginning es h = nothing-there w n current

pub starts_where_it_may : StartsWhereItMay
unfolding entries_of
starts_where_it_may limits place past c =
    let by = answers-by place.command place.mark (length past) c in
    starts-kept (window_at limits (place ∷ past)) (length past) (current_connection (place ∷ past) c) (clean_session_of (place ∷ past) c) (begins place past c) _
    (rw (by.done_is (entries_of limits past c))
    (starts (window_at limits (place ∷ past)) (length past) (current_connection (place ∷ past) c) _
    (before-more (length past) (length past) (map by.on_each (entries_of limits past c)) (queued (copies_at place past c))
    (before-answered (length past) (length past) by.on_each by.answering (entries_of limits past c) (started-before limits past c)))))
