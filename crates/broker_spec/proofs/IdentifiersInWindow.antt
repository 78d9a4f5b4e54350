-- While the window never shrinks, the identifiers of what is in flight are 1 to the window.
use Rattle.std.proofs.Common.{◌≡◌, ℕ, ◌≤◌, ◌<◌, Bool, true, false, nat_lt, if◌then◌else◌, List, [], ◌∷◌, ◌++◌, length, map, Option, Some, None, inl, inr, refl, arith}
use Rattle.std.specs.List.{AllByRecursion}
use Rattle.broker_spec.specs.Connection.{ConnectionName}
use Rattle.broker_spec.specs.Sessions.{current_connection, clean_session_of, begins, in_session}
use Rattle.session_base.specs.declared.publication.Publication.{Publication}
use Rattle.broker_spec.specs.Entries.{Entry, copies_at, queued}
use Rattle.broker_spec.specs.Readings.{busy_ids}
use Rattle.session_base.specs.Identifiers.{least_free}
use Rattle.broker_spec.specs.Times.{entries_of, window_at, start_all, started}
use Rattle.broker_spec.specs.Commands.{usual_limits}
use Rattle.broker_spec.specs.IdentifierTheorems.{IsInWindow, IdentifiersAreInTheWindow, IdentifiersAreTo64}
use Rattle.broker_spec.proofs.EntriesGrow.{Answered, Answering, answers-by}
use Rattle.broker_spec.proofs.LeastFree.{least-in-reach}

-- the identifiers in flight are in the window
abbrev pub Fits : ℕ → List Entry → Type 0
Fits w es = AllByRecursion (IsInWindow w) (busy_ids es)

wider : (w v : ℕ) (ids : List ℕ) → w ≤ v → AllByRecursion (IsInWindow w) ids → AllByRecursion (IsInWindow v) ids
wider w v [] h f = tt
wider w v (id ∷ ids) h f = ((f.0.0, (let g = f.0.1 in omega (arith, g, h))), wider w v ids h f.1)

fits-answered : (w n : ℕ) (f : Entry → Entry) → Answering n f → (es : List Entry) → Fits w es → Fits w (map f es)
fits-answered w n f a [] h = tt
fits-answered w n f a (Entry.Queued made p ∷ es) h = rw (a (Entry.Queued made p)) (fits-answered w n f a es h)
fits-answered w n f a (Entry.Sent made p id start ∷ es) h = by (a (Entry.Sent made p id start)) (fits-answered w n f a es h.1)
  where
    by : Answered n (Entry.Sent made p id start) (f (Entry.Sent made p id start)) → Fits w (map f es) → Fits w (f (Entry.Sent made p id start) ∷ map f es)
    by (inl e) ih = rw e (h.0, ih)
    by (inr (inl e)) ih = rw e (h.0, ih)
    by (inr (inr e)) ih = rw e ih
fits-answered w n f a (Entry.Released made p id start release ∷ es) h = by (a (Entry.Released made p id start release)) (fits-answered w n f a es h.1)
  where
    by : Answered n (Entry.Released made p id start release) (f (Entry.Released made p id start release)) → Fits w (map f es) → Fits w (f (Entry.Released made p id start release) ∷ map f es)
    by (inl e) ih = rw e (h.0, ih)
    by (inr e) ih = rw e ih
fits-answered w n f a (Entry.Done made p id start release finish ∷ es) h = rw (a (Entry.Done made p id start release finish)) (fits-answered w n f a es h)

fits-new : (w n : ℕ) (ps : List Publication) → Fits w (map (Entry.Queued n) ps)
fits-new w n [] = tt
fits-new w n (p ∷ ps) = fits-new w n ps

fits-more : (w n : ℕ) (es : List Entry) (ps : List Publication) → Fits w es → Fits w (es ++ map (Entry.Queued n) ps)
fits-more w n [] ps h = fits-new w n ps
fits-more w n (Entry.Queued made p ∷ es) ps h = fits-more w n es ps h
fits-more w n (Entry.Sent made p id start ∷ es) ps h = (h.0, fits-more w n es ps h.1)
fits-more w n (Entry.Released made p id start release ∷ es) ps h = (h.0, fits-more w n es ps h.1)
fits-more w n (Entry.Done made p id start release finish ∷ es) ps h = fits-more w n es ps h

start-by : (w n : ℕ) (busy : List ℕ) (made : ℕ) (p : Publication) (es : List Entry) → Fits w es → Fits w (start_all w n (least_free busy ∷ busy) es)
    → (b : Bool) → nat_lt (length busy) w ≡ b
    → Fits w (if b then Entry.Sent made p (least_free busy) n ∷ start_all w n (least_free busy ∷ busy) es else Entry.Queued made p ∷ es)
start-by w n busy made p es h ih true e =
    let r = least-in-reach busy in let l : length busy < w = grind (arith, e) in let s = r.1 in ((r.0, omega (arith, s, l)), ih)
start-by w n busy made p es h ih false e = h

fits-start : (w n : ℕ) (busy : List ℕ) (es : List Entry) → Fits w es → Fits w (start_all w n busy es)
fits-start w n busy [] h = tt
fits-start w n busy (Entry.Queued made p ∷ es) h = start-by w n busy made p es h (fits-start w n (least_free busy ∷ busy) es h) (nat_lt (length busy) w) refl
fits-start w n busy (Entry.Sent made p id start ∷ es) h = (h.0, fits-start w n (id ∷ busy) es h.1)
fits-start w n busy (Entry.Released made p id start release ∷ es) h = (h.0, fits-start w n (id ∷ busy) es h.1)
fits-start w n busy (Entry.Done made p id start release finish ∷ es) h = fits-start w n busy es h

fits-started : (w n : ℕ) (current : Option ConnectionName) (es : List Entry) → Fits w es → Fits w (started w n current es)
fits-started w n None es h = h
fits-started w n (Some x) es h = fits-start w n [] es h

fits-kept : (w : ℕ) (session : Option Bool) (beginning : Bool) (es : List Entry) → Fits w es → Fits w (in_session session beginning [] es)
fits-kept w (Some clean) false es h = h
fits-kept w (Some clean) true es h = tt
fits-kept w None beginning es h = tt

pub identifiers_are_in_the_window : IdentifiersAreInTheWindow
unfolding entries_of
identifiers_are_in_the_window limits grows [] c = tt
identifiers_are_in_the_window limits grows (place ∷ past) c =
    let by = answers-by place.command place.mark (length past) c in
    fits-kept (window_at limits (place ∷ past)) (clean_session_of (place ∷ past) c) (begins place past c) _
    (rw (by.done_is (entries_of limits past c))
    (fits-started (window_at limits (place ∷ past)) (length past) (current_connection (place ∷ past) c) _
    (fits-more (window_at limits (place ∷ past)) (length past) (map by.on_each (entries_of limits past c)) (queued (copies_at place past c))
    (fits-answered (window_at limits (place ∷ past)) (length past) by.on_each by.answering (entries_of limits past c)
    (wider (window_at limits past) (window_at limits (place ∷ past)) (busy_ids (entries_of limits past c)) (grows place past)
    (identifiers_are_in_the_window limits grows past c))))))

pub identifiers_are_to_64 : IdentifiersAreTo64
identifiers_are_to_64 = identifiers_are_in_the_window usual_limits (λ place past. omega arith)
