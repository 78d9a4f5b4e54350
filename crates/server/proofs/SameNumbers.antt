-- SameNumbers.antt: as many distinct numbers as a list has, each of which it has, are the list in another order.
use Rattle.std.proofs.Common.{◌≡◌, ℕ, ◌==◌, zero, suc, false, List, [], ◌∷◌, length, sym, ap, ◌∙◌, arith}
use Rattle.std.specs.List.{Contains, remove}
use Rattle.std.specs.List.Sorted.{IsPermutation}
use Rattle.std.proofs.lemmas.Bool.{false≢true}
use Rattle.std.proofs.lemmas.List.Elements.{at_from_Contains}
use Rattle.std.proofs.lemmas.List.Sorted.{Contains-permutation, IsPermutation-cons, IsPermutation-refl, IsPermutation-remove, IsPermutation-sym, IsPermutation-trans, length_permutation}
use Rattle.lists.specs.Lists.{Each, IsDistinct, has_id}
use Rattle.lists.proofs.Tests.{eq_same, or_none}

-- a number that a list has is among the rest, if the first is another
other_in : (x y : ℕ) (ys : List ℕ) → Contains (x ∷ ys) y → (y ≡ x → ⊥) → Contains ys y
other_in x y ys (zero, below, is) apart = absurd (apart (sym is))
other_in x y ys (suc k, below, is) apart = (k, omega (arith, below), is)

others_in : (x : ℕ) (xs rest ys : List ℕ) → has_id x xs ≡ false → IsPermutation ys (x ∷ rest)
    → Each (Contains ys) xs → Each (Contains rest) xs
others_in x [] rest ys none moved each = tt
others_in x (y ∷ xs) rest ys none moved each =
    let apart = or_none _ _ none in (
      other_in x y rest (Contains-permutation ys (x ∷ rest) y moved each.0)
          (λ same. absurd (false≢true (sym apart.0 ∙ (ap (λ z. x == z) same ∙ eq_same x)))),
      others_in x xs rest ys apart.1 moved each.1,
    )

pub same_numbers : (xs ys : List ℕ) → IsDistinct xs → Each (Contains ys) xs → length xs ≡ length ys
    → IsPermutation xs ys
same_numbers [] [] distinct each long = IsPermutation-refl []
same_numbers [] (y ∷ ys) distinct each long = absurd (omega (arith, long))
same_numbers (x ∷ xs) ys distinct each long =
    let at = at_from_Contains ys x each.0 in
    let rest = remove ys at.0 in
    let moved : IsPermutation ys (x ∷ rest) = IsPermutation-remove ys at.0 x at.1 (sym (at.2 x)) in
    IsPermutation-trans _ _ _
    (IsPermutation-cons x xs rest
    (same_numbers xs rest distinct.1 (others_in x xs rest ys distinct.0 moved each.1)
    (omega (arith, long, length_permutation ys (x ∷ rest) moved))))
    (IsPermutation-sym ys (x ∷ rest) moved)
