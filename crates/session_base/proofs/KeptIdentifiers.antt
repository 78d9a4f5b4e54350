-- Which identifiers are kept after one that comes, and after one that goes.
use Rattle.std.proofs.Common.{◌≡◌, ℕ, Bool, true, false, not, ◌&&◌, ◌||◌, ◌==◌, if◌then◌else◌, List, [], ◌∷◌, refl, ◌∙◌, ap, arith}
use Rattle.std.specs.declared.cmp.Ordering.{Ordering}
use Rattle.std.specs.declared.cmp.Ordering.TheVariants.{Less, Equal, Greater}
use Rattle.std.specs.Ordering.{nat_cmp, match_ordering}
use Rattle.std.proofs.lemmas.Map.Lookups.{exact_unsigned}
use Rattle.lists.specs.Lists.{has_id}
use Rattle.session_base.specs.Identifiers.{with_id, without_id}

same-number : (i j : ℕ) → (i == j) ≡ true → i ≡ j
same-number i j e = grind arith

swap-or : (x y z : Bool) → x || (y || z) ≡ y || (x || z)
swap-or true true z = refl
swap-or true false z = refl
swap-or false y z = refl

twice-or : (x y : Bool) → x || y ≡ x || (x || y)
twice-or true y = refl
twice-or false y = refl

with-by : (id i other : ℕ) (others : List ℕ) → has_id id (with_id i others) ≡ (id == i) || has_id id others
    → (o : Ordering) → nat_cmp i other ≡ o
    → has_id id (match_ordering o (i ∷ other ∷ others) (other ∷ others) (other ∷ with_id i others)) ≡ (id == i) || ((id == other) || has_id id others)
with-by id i other others ih Less e = refl
with-by id i other others ih Equal e = rw (exact_unsigned i other e) (twice-or (id == other) (has_id id others))
with-by id i other others ih Greater e = ap (λ z. (id == other) || z) ih ∙ swap-or (id == other) (id == i) (has_id id others)

-- an identifier that comes in is there, and the others are as they were
pub has_with : (id i : ℕ) (ids : List ℕ) → has_id id (with_id i ids) ≡ (id == i) || has_id id ids
has_with id i [] = refl
has_with id i (other ∷ others) = with-by id i other others (has_with id i others) (nat_cmp i other) refl

without-by : (id i other : ℕ) (others : List ℕ) → has_id id (without_id i others) ≡ not (id == i) && has_id id others
    → (same : Bool) → (i == other) ≡ same
    → has_id id (if not same then other ∷ without_id i others else without_id i others) ≡ not (id == i) && ((id == other) || has_id id others)
without-by id i other others ih true e = rw (← same-number i other e) (ih ∙ gone (id == i) (has_id id others))
  where
    gone : (x y : Bool) → not x && y ≡ not x && (x || y)
    gone true y = refl
    gone false y = refl
without-by id i other others ih false e = ap (λ z. (id == other) || z) ih ∙ apart (id == i) refl
  where
    apart : (x : Bool) → (id == i) ≡ x → (id == other) || (not x && has_id id others) ≡ not x && ((id == other) || has_id id others)
    apart true f = differs (id == other) refl
      where
        differs : (y : Bool) → (id == other) ≡ y → y || false ≡ false
        differs true g = grind arith
        differs false g = refl
    apart false f = refl

-- an identifier that is given up is not there, and the others are as they were
pub has_without : (id i : ℕ) (ids : List ℕ) → has_id id (without_id i ids) ≡ not (id == i) && has_id id ids
has_without id i [] = false-and (id == i)
  where
    false-and : (x : Bool) → false ≡ not x && false
    false-and true = refl
    false-and false = refl
has_without id i (other ∷ others) = without-by id i other others (has_without id i others) (i == other) refl
