-- An entry waits only if its client has no connection, or the window is full of the earlier ones.
use Rattle.std.proofs.Common.{◌≡◌, ℕ, suc, ◌≤◌, ◌+◌, Bool, true, false, nat_lt, if◌then◌else◌, List, [], ◌∷◌, ◌++◌, length, filter, Option, Some, None, ◌⊎◌, inl, inr, refl, arith}
use Rattle.broker_spec.specs.Connection.{ConnectionName}
use Rattle.broker_spec.specs.Place.{Client, Past, Limits}
use Rattle.broker_spec.specs.Sessions.{current_connection, clean_session_of, begins, in_session}
use Rattle.session_base.specs.declared.publication.Publication.{Publication}
use Rattle.broker_spec.specs.Entries.{Entry, is_unfinished}
use Rattle.session_base.specs.Identifiers.{least_free}
use Rattle.broker_spec.specs.Times.{entries_of, window_at, start_all, started}
use Rattle.broker_spec.specs.EntryTheorems.{NothingWaitsInVain}

-- with this many unfinished entries before these, each that waits has a full window before it
abbrev pub IsFull : ℕ → ℕ → List Entry → Type 0
IsFull w k [] = Unit {0}
IsFull w k (Entry.Queued made p ∷ es) = (w ≤ k) × IsFull w (suc k) es
IsFull w k (Entry.Sent made p id start ∷ es) = IsFull w (suc k) es
IsFull w k (Entry.Released made p id start release ∷ es) = IsFull w (suc k) es
IsFull w k (Entry.Done made p id start release finish ∷ es) = IsFull w k es

full-from : (w k : ℕ) (es : List Entry) → w ≤ k → IsFull w k es
full-from w k [] h = tt
full-from w k (Entry.Queued made p ∷ es) h = (h, full-from w (suc k) es (omega (arith, h)))
full-from w k (Entry.Sent made p id start ∷ es) h = full-from w (suc k) es (omega (arith, h))
full-from w k (Entry.Released made p id start release ∷ es) h = full-from w (suc k) es (omega (arith, h))
full-from w k (Entry.Done made p id start release finish ∷ es) h = full-from w k es h

starts-by : (w n : ℕ) (busy : List ℕ) (made : ℕ) (p : Publication) (es : List Entry) → ((ids : List ℕ) → IsFull w (length ids) (start_all w n ids es))
    → (b : Bool) → nat_lt (length busy) w ≡ b
    → IsFull w (length busy) (if b then Entry.Sent made p (least_free busy) n ∷ start_all w n (least_free busy ∷ busy) es else Entry.Queued made p ∷ es)
starts-by w n busy made p es ih true e = ih (least_free busy ∷ busy)
starts-by w n busy made p es ih false e =
    let h : w ≤ length busy = grind (arith, e) in (h, full-from w (suc (length busy)) es (omega (arith, h)))

pub starts-full : (w n : ℕ) (busy : List ℕ) (es : List Entry) → IsFull w (length busy) (start_all w n busy es)
starts-full w n busy [] = tt
starts-full w n busy (Entry.Queued made p ∷ es) = starts-by w n busy made p es (λ ids. starts-full w n ids es) (nat_lt (length busy) w) refl
starts-full w n busy (Entry.Sent made p id start ∷ es) = starts-full w n (id ∷ busy) es
starts-full w n busy (Entry.Released made p id start release ∷ es) = starts-full w n (id ∷ busy) es
starts-full w n busy (Entry.Done made p id start release finish ∷ es) = starts-full w n busy es

-- after any place there is no connection, or the window is full before what waits
pub full-at : (limits : Limits) (past : Past) (c : Client) → (current_connection past c ≡ None) ⊎ IsFull (window_at limits past) 0 (entries_of limits past c)
unfolding entries_of
full-at limits [] c = inr tt
full-at limits (place ∷ past) c =
    by-session (clean_session_of (place ∷ past) c) (begins place past c) (current_connection (place ∷ past) c) _
  where
    by-session : (session : Option Bool) (beginning : Bool) (current : Option ConnectionName) (es : List Entry)
        → (current ≡ None) ⊎ IsFull (window_at limits (place ∷ past)) 0 (in_session session beginning [] (started (window_at limits (place ∷ past)) (length past) current es))
    by-session None beginning current es = inr tt
    by-session (Some clean) true current es = inr tt
    by-session (Some clean) false None es = inl refl
    by-session (Some clean) false (Some x) es = inr (starts-full (window_at limits (place ∷ past)) (length past) [] es)

full-here : (w k : ℕ) (before after : List Entry) (made : ℕ) (p : Publication) → IsFull w k (before ++ Entry.Queued made p ∷ after)
    → w ≤ k + length (filter is_unfinished before)
full-here w k [] after made p h = omega (arith, h.0)
full-here w k (Entry.Queued m q ∷ es) after made p h = let ih = full-here w (suc k) es after made p h.1 in omega (arith, ih)
full-here w k (Entry.Sent m q id start ∷ es) after made p h = let ih = full-here w (suc k) es after made p h in omega (arith, ih)
full-here w k (Entry.Released m q id start release ∷ es) after made p h = let ih = full-here w (suc k) es after made p h in omega (arith, ih)
full-here w k (Entry.Done m q id start release finish ∷ es) after made p h = full-here w k es after made p h

pub nothing_waits_in_vain : NothingWaitsInVain
nothing_waits_in_vain limits past c before after made p e = by (full-at limits past c)
  where
    by : (current_connection past c ≡ None) ⊎ IsFull (window_at limits past) 0 (entries_of limits past c)
        → (current_connection past c ≡ None) ⊎ (window_at limits past ≤ length (filter is_unfinished before))
    by (inl none) = inl none
    by (inr full) =
        let h = full-here (window_at limits past) 0 before after made p (rw e at full) in inr (omega (arith, h))
