-- Received identifiers stay in rising order.
use Rattle.std.proofs.Common.{◌≡◌, ℕ, not, ◌==◌, List, [], ◌∷◌, refl, ap, ◌∙◌}
use Rattle.std.specs.declared.cmp.Ordering.{Ordering}
use Rattle.std.specs.declared.cmp.Ordering.TheVariants.{Less, Equal, Greater}
use Rattle.std.specs.Ordering.{nat_cmp, match_ordering, ordering_reverse}
use Rattle.std.specs.List.{AllByRecursion}
use Rattle.std.specs.List.Sorted.{IsStrictlySortedBy}
use Rattle.std.proofs.lemmas.Cmp.{nat_cmp_total}
use Rattle.std.proofs.lemmas.List.Kept.{IsStrictlySortedBy-filter}
use Rattle.session_base.specs.Identifiers.{with_id}
use Rattle.session_base.specs.KeepingTheorems.{ReceivedStayRising}

abbrev pub Above : ℕ → List ℕ → Type 0
Above i ids = AllByRecursion (λ other. nat_cmp i other ≡ Less) ids

above_more : (i j : ℕ) (ids : List ℕ) → nat_cmp i j ≡ Less → Above j ids → Above i ids
above_more i j [] less h = tt
above_more i j (other ∷ ids) less h = (nat_cmp_total.trans i j other less h.0, above_more i j ids less h.1)

above_with : (i id : ℕ) (ids : List ℕ) → nat_cmp i id ≡ Less → Above i ids → Above i (with_id id ids)
above_with i id [] less h = (less, tt)
above_with i id (other ∷ ids) less h = by (nat_cmp id other) (above_with i id ids less h.1)
  where
    by : (o : Ordering) → Above i (with_id id ids) → Above i (match_ordering o (id ∷ other ∷ ids) (other ∷ ids) (other ∷ with_id id ids))
    by Less more = (less, h)
    by Equal more = h
    by Greater more = (h.0, more)

rising_with : (id : ℕ) (ids : List ℕ) → IsStrictlySortedBy nat_cmp ids → IsStrictlySortedBy nat_cmp (with_id id ids)
unfolding IsStrictlySortedBy
rising_with id [] h = (tt, tt)
rising_with id (other ∷ ids) h = by (nat_cmp id other) refl (rising_with id ids h.1)
  where
    by : (o : Ordering) → nat_cmp id other ≡ o → IsStrictlySortedBy nat_cmp (with_id id ids) →
        IsStrictlySortedBy nat_cmp (match_ordering o (id ∷ other ∷ ids) (other ∷ ids) (other ∷ with_id id ids))
    by Less e more = ((e, above_more id other ids e h.0), h)
    by Equal e more = h
    by Greater e more = (above_with other id ids (nat_cmp_total.antisymm other id ∙ ap ordering_reverse e) h.0, more)

pub received_rise : ReceivedStayRising
received_rise id ids h = (rising_with id ids h, IsStrictlySortedBy-filter nat_cmp (λ other. not (id == other)) ids h)
