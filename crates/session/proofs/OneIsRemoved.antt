-- Of identifiers in rising order, to take the first one out is to take each such out.
use Rattle.std.proofs.Common.{◌≡◌, ℕ, Bool, true, false, not, ◌==◌, if◌then◌else◌, List, [], ◌∷◌, refl, ap, ◌∙◌, sym, subst, arith}
use Rattle.std.specs.declared.cmp.Ordering.TheVariants.{Less}
use Rattle.std.specs.Ordering.{is_eq, nat_cmp}
use Rattle.std.specs.Cmp.{unsigned_tied}
use Rattle.std.specs.List.{AllByRecursion}
use Rattle.std.specs.List.Sorted.{IsStrictlySortedBy}
use Rattle.std.specs.BTreeMap.{is_at}
use Rattle.std.specs.Set.{remove_key}
use Rattle.session_base.specs.Identifiers.{without_id}

same_number : (i j : ℕ) → (i == j) ≡ true → i ≡ j
same_number i j e = grind arith

-- those above it stay
above_stay : (id : ℕ) (ids : List ℕ) → AllByRecursion (λ other. nat_cmp id other ≡ Less) ids → without_id id ids ≡ ids
above_stay id [] h = refl
above_stay id (other ∷ ids) h =
    let apart : (id == other) ≡ false = sym (unsigned_tied id other) ∙ ap is_eq h.0 in
    rw apart (ap (λ rest. other ∷ rest) (above_stay id ids h.1))

pub one_removed : (id : ℕ) (ids : List ℕ) → IsStrictlySortedBy nat_cmp ids → remove_key (is_at (nat_cmp id)) ids ≡ without_id id ids
unfolding IsStrictlySortedBy
one_removed id [] h = refl
one_removed id (other ∷ ids) h =
    ap (λ b. if b then ids else other ∷ remove_key (is_at (nat_cmp id)) ids) (unsigned_tied id other)
    ∙ by (id == other) refl (one_removed id ids h.1)
  where
    by : (b : Bool) → (id == other) ≡ b → remove_key (is_at (nat_cmp id)) ids ≡ without_id id ids →
        (if b then ids else other ∷ remove_key (is_at (nat_cmp id)) ids) ≡ (if not b then other ∷ without_id id ids else without_id id ids)
    by true e more =
        sym (above_stay id ids (subst (λ (i : ℕ). AllByRecursion (λ j. nat_cmp i j ≡ Less) ids) (sym (same_number id other e)) h.0))
    by false e more = ap (λ rest. other ∷ rest) more
