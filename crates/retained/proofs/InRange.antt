-- The topics that a filter matches lie between the levels in front of its first wildcard and the
-- text after all that continue below them.
use Rattle.std.proofs.Common.{◌≡◌, ℕ, List, [], ◌∷◌, ◌++◌, Bool, true, false, Equal, Greater, refl, sym, ap, ◌∙◌, inl, inr}
use Rattle.std.specs.Ordering.{nat_cmp, is_le}
use Rattle.std.specs.Cmp.{nat_cmp_is}
use Rattle.std.specs.Cmp.Lexicographic.{slice_cmp}
use Rattle.std.specs.declared.ops.Bound.{Bound}
use Rattle.std.specs.declared.ops.Bound.TheVariants.{Included, Excluded}
use Rattle.std.specs.BTreeMap.Range.{IsLeBy, range_contains, entries_between}
use Rattle.topics.specs.Matching.{is_match}
use Rattle.topics.proofs.BelowFront.{below_front}
use Rattle.retained.specs.Retained.{RetainedTopics, matching_entries}
use Rattle.retained.specs.Inside.{IsAround, HoldsMatches}

same : (n : ℕ) → nat_cmp n n ≡ Equal
same n = sym (nat_cmp_is n n Equal refl)

-- a text comes before those that continue with it
first_le : (front more : List ℕ) → is_le (slice_cmp nat_cmp front (front ++ more)) ≡ true
first_le [] [] = refl
first_le [] (b ∷ more) = refl
first_le (b ∷ front) more = rw (same b) (first_le front more)

pub forward : (filter first end : List ℕ) → IsAround filter first end → IsLeBy (slice_cmp nat_cmp) first end
forward filter first end h = rw (h.1) (before first)
  where
    before : (front : List ℕ) → IsLeBy (slice_cmp nat_cmp) front (front ++ 48 ∷ [])
    before [] = refl
    before (b ∷ front) = rw (same b) (before front)

-- `0` comes after nothing, and after `/`
end_gt : (front : List ℕ) → slice_cmp nat_cmp (front ++ 48 ∷ []) front ≡ Greater
end_gt [] = refl
end_gt (b ∷ front) = rw (same b) (end_gt front)

end_gt_below : (front more : List ℕ) → slice_cmp nat_cmp (front ++ 48 ∷ []) (front ++ 47 ∷ more) ≡ Greater
end_gt_below [] more = refl
end_gt_below (b ∷ front) more = rw (same b) (end_gt_below front more)

same_le : (front : List ℕ) → is_le (slice_cmp nat_cmp front front) ≡ true
same_le [] = refl
same_le (b ∷ front) = rw (same b) (same_le front)

pub holds_within : (filter first end : List ℕ) → IsAround filter first end → HoldsMatches filter (Included first) (Excluded end)
holds_within filter first end h topic matched =
    rw (h.1) (elim (below_front first h.0.1.0 topic h.0.0 (sym (ap (λ (f : List ℕ). is_match f topic) h.0.1.1) ∙ matched)) [
      | inl e ↦ rw (e, same_le first, end_gt first) refl
      | inr more ↦ rw (more.1, first_le first (47 ∷ more.0), end_gt_below first more.0) refl
    ])

-- so those within the bounds are all
pub all_within : (content : RetainedTopics) (asked : List ℕ) (start end : Bound (List ℕ)) → HoldsMatches asked start end
    → matching_entries (entries_between (slice_cmp nat_cmp) start end content) asked ≡ matching_entries content asked
all_within [] asked start end holds = refl
all_within (entry ∷ content) asked start end holds =
    go (is_match asked entry.0) (range_contains (slice_cmp nat_cmp) start end entry.0) refl refl (holds entry.0) (all_within content asked start end holds)
  where
    go : (matched within : Bool) → is_match asked entry.0 ≡ matched → range_contains (slice_cmp nat_cmp) start end entry.0 ≡ within
        → (is_match asked entry.0 ≡ true → range_contains (slice_cmp nat_cmp) start end entry.0 ≡ true)
        → matching_entries (entries_between (slice_cmp nat_cmp) start end content) asked ≡ matching_entries content asked
        → matching_entries (entries_between (slice_cmp nat_cmp) start end (entry ∷ content)) asked ≡ matching_entries (entry ∷ content) asked
    go true within m w lies rest = rw (lies m, m) (ap (λ (found : RetainedTopics). entry ∷ found) rest)
    go false true m w lies rest = rw (w, m) rest
    go false false m w lies rest = rw (w, m) rest
