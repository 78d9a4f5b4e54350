-- The bytes that are read as a list of items are its spelling, and one that is spelled is read.
use Rattle.std.proofs.Common.{◌≡◌, ℕ, zero, suc, ◌<◌, ◌≤◌, true, false, eqb, List, [], ◌∷◌, ◌++◌, length, Ok, refl, ap, ◌∙◌, arith}
use Rattle.std.specs.Prelude.{IfOk, not}
use Rattle.std.specs.List.{flat_map, All}
use Rattle.std.proofs.lemmas.Bool.{eqb-true}
use Rattle.std.proofs.lemmas.List.{length-append, nil_from_length}
use Rattle.std.proofs.lemmas.List.Elements.{All-nil, All-cons, All-head, All-tail}
use Rattle.std.proofs.Math.Dec.{eqb-suc-zero}
use Rattle.packet_base.specs.Readers.{AreBytes}
use Rattle.packet_base.specs.Lists.{ItemAt, items_of, items_at, list_of}
use Rattle.packet_base.proofs.Steps.{then_if, check_if, cond_if}
use Rattle.packet_base.proofs.FieldsFound.{Splits}

-- the front of the bytes that is read as an item is its spelling, each item that is spelled is
-- read, and it has at least one byte
pub record IsItem {A : Type 0} (item : ItemAt A) (spelled : A → List ℕ) (Fits : A → Type 0) : Type 0 where
  pub found : (bytes : List ℕ) → AreBytes bytes → IfOk (item bytes) (λ x. Splits bytes (spelled x.0) x.1 × Fits x.0)
  pub again : (x : A) (rest : List ℕ) → Fits x → item (spelled x ++ rest) ≡ Ok (x, rest)
  pub some : (x : A) → 0 < length (spelled x)

pub items_found : {A : Type 0} (item : ItemAt A) (spelled : A → List ℕ) (Fits : A → Type 0) → IsItem item spelled Fits
    → (most : ℕ) (bytes : List ℕ) → length bytes ≤ most → AreBytes bytes → IfOk (items_of item most bytes) (λ xs. (bytes ≡ flat_map spelled xs) × All Fits xs)
unfolding items_of
items_found item spelled Fits is zero bytes few fits = (nil_from_length bytes (omega arith), All-nil Fits)
items_found {A = A} item spelled Fits is (suc most) bytes few fits =
    let Q : List A → Type 0 = λ xs. (bytes ≡ flat_map spelled xs) × All Fits xs in
    cond_if (eqb (length bytes) 0) _ _ Q (λ none. (nil_from_length bytes (eqb-true _ _ none), All-nil Fits)) (λ _.
    then_if (item bytes) _ (λ x. Splits bytes (spelled x.0) x.1 × Fits x.0) Q (is.found bytes fits) (λ first h.
    let left : length first.1 ≤ most = omega (arith, few, ap length h.0.parts, length-append (spelled first.0) first.1, is.some first.0) in
    then_if (items_of item most first.1) _ (λ xs. (first.1 ≡ flat_map spelled xs) × All Fits xs) Q (items_found item spelled Fits is most first.1 left h.0.left) (λ others k.
    (h.0.parts ∙ ap (λ (x : List ℕ). spelled first.0 ++ x) k.0, All-cons Fits first.0 others h.1 k.1))))

-- no item is spelled by nothing
not_empty : (bytes more : List ℕ) → 0 < length bytes → eqb (length (bytes ++ more)) 0 ≡ false
not_empty [] more some = absurd (omega arith)
not_empty (b ∷ bytes) more some = eqb-suc-zero _

pub items_again : {A : Type 0} (item : ItemAt A) (spelled : A → List ℕ) (Fits : A → Type 0) → IsItem item spelled Fits
    → (xs : List A) (most : ℕ) → length (flat_map spelled xs) ≤ most → All Fits xs → items_of item most (flat_map spelled xs) ≡ Ok xs
unfolding items_of
items_again item spelled Fits is [] zero few all = refl
items_again item spelled Fits is [] (suc most) few all = refl
items_again item spelled Fits is (x ∷ xs) zero few all = absurd (omega (arith, few, length-append (spelled x) (flat_map spelled xs), is.some x))
items_again item spelled Fits is (x ∷ xs) (suc most) few all =
    let rest = flat_map spelled xs in
    let left : length rest ≤ most = omega (arith, few, length-append (spelled x) rest, is.some x) in
    rw (
      not_empty (spelled x) rest (is.some x),
      is.again x rest (All-head Fits x xs all),
      items_again item spelled Fits is xs most left (All-tail Fits x xs all),
    ) refl

-- a list with an item
pub list_found : {A : Type 0} (item : ItemAt A) (spelled : A → List ℕ) (Fits : A → Type 0) → IsItem item spelled Fits
    → (bytes : List ℕ) → AreBytes bytes → IfOk (list_of item bytes) (λ xs. (bytes ≡ flat_map spelled xs) × All Fits xs × (0 < length xs))
list_found {A = A} item spelled Fits is bytes fits =
    let Q : List A → Type 0 = λ xs. (bytes ≡ flat_map spelled xs) × All Fits xs × (0 < length xs) in
    then_if (items_at item bytes) _ (λ xs. (bytes ≡ flat_map spelled xs) × All Fits xs) Q (items_found item spelled Fits is (length bytes) bytes (omega arith) fits) (λ xs h.
    check_if (not (eqb (length xs) 0)) _ _ Q (λ t. (h.0, h.1, some_item xs t)))
  where
    some_item : {A : Type 0} (xs : List A) → not (eqb (length xs) 0) ≡ true → 0 < length xs
    some_item [] t = absurd cc
    some_item (x ∷ xs) t = omega arith

pub list_again : {A : Type 0} (item : ItemAt A) (spelled : A → List ℕ) (Fits : A → Type 0) → IsItem item spelled Fits
    → (xs : List A) → All Fits xs → 0 < length xs → list_of item (flat_map spelled xs) ≡ Ok xs
list_again item spelled Fits is [] all some = absurd (omega arith)
list_again item spelled Fits is (x ∷ xs) all some =
    rw (items_again item spelled Fits is (x ∷ xs) (length (flat_map spelled (x ∷ xs))) (omega arith) all, eqb-suc-zero (length xs)) refl
