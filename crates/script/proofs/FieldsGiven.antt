-- FieldsGiven.antt: the fields of a line, by how many there are and what each is.
use Rattle.std.proofs.Common.{◌≡◌, ◌<◌, ◌≤◌, Bor, List, [], ◌∷◌, length, get_or, ap, sym, ◌∙◌, arith}
use Rattle.script.specs.Fields.{Text, texts}

pub one_field : (xs : List (Bor Text)) (all : List Text) (w : Text) (d : Bor Text) → texts xs ≡ all → 1 ≤ length xs → length xs < 2
    → (get_or xs 0 d).now ≡ w → all ≡ w ∷ []
one_field [] all w d are some few is = absurd (omega (arith, some))
one_field (x ∷ []) all w d are some few is = sym are ∙ ap (λ (t : Text). t ∷ []) is
one_field (x ∷ y ∷ more) all w d are some few is = absurd (omega (arith, few))

pub two_fields : (xs : List (Bor Text)) (all : List Text) (w : Text) (d e : Bor Text) → texts xs ≡ all → 2 ≤ length xs → length xs < 3
    → (get_or xs 0 d).now ≡ w → all ≡ w ∷ (get_or xs 1 e).now ∷ []
two_fields [] all w d e are some few is = absurd (omega (arith, some))
two_fields (x ∷ []) all w d e are some few is = absurd (omega (arith, some))
two_fields (x ∷ y ∷ []) all w d e are some few is = sym are ∙ ap (λ (t : Text). t ∷ y.now ∷ []) is
two_fields (x ∷ y ∷ z ∷ more) all w d e are some few is = absurd (omega (arith, few))

pub three_fields : (xs : List (Bor Text)) (all : List Text) (w : Text) (d e f : Bor Text) → texts xs ≡ all → 3 ≤ length xs → length xs < 4
    → (get_or xs 0 d).now ≡ w → all ≡ w ∷ (get_or xs 1 e).now ∷ (get_or xs 2 f).now ∷ []
three_fields [] all w d e f are some few is = absurd (omega (arith, some))
three_fields (x ∷ []) all w d e f are some few is = absurd (omega (arith, some))
three_fields (x ∷ y ∷ []) all w d e f are some few is = absurd (omega (arith, some))
three_fields (x ∷ y ∷ z ∷ []) all w d e f are some few is = sym are ∙ ap (λ (t : Text). t ∷ y.now ∷ z.now ∷ []) is
three_fields (x ∷ y ∷ z ∷ u ∷ more) all w d e f are some few is = absurd (omega (arith, few))
