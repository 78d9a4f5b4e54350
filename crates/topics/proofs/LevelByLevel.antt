-- A text's levels are the bytes before its first `/` and the levels of what follows it.
use Rattle.std.proofs.Common.{◌≡◌, ℕ, zero, suc, ◌+◌, ◌-◌, ◌<◌, List, [], ◌∷◌, length, get_or, take, drop, refl, true, false, ◌==◌, arith, cond, ap, ◌∙◌, add-one, nat_le, nat_lt, count_by}
use Rattle.std.specs.List.{onto_first}
use Rattle.std.proofs.lemmas.Bool.{eq-eqb, ne_eqb}
use Rattle.std.proofs.lemmas.Bool.Decides.{nat_tests}
use Rattle.std.proofs.lemmas.List.{take_rest}
use Rattle.std.proofs.lemmas.List.Splits.{slice_split-cons_yes, slice_split-cons_no, length-slice_split}
use Rattle.topics.specs.Text.{levels, is_last, Levels, is_shallow}

cut : (text : List ℕ) (i : ℕ) → i < length text → ((k : ℕ) → k < i → get_or text k 0 ≡ 47 → ⊥) → get_or text i 0 ≡ 47 → levels text ≡ take i text ∷ levels (drop (suc i) text)
cut [] i lt before at = absurd (omega arith)
cut (x ∷ xs) zero lt before at = slice_split-cons_yes (λ b. b == 47) x xs (eq-eqb x 47 at)
cut (x ∷ xs) (suc i) lt before at =
    slice_split-cons_no (λ b. b == 47) x xs (ne_eqb x 47 (before 0 (omega arith)))
    ∙ ap (onto_first x) (cut xs i (omega arith) (λ k h. before (suc k) (omega arith)) at)

-- no `/` is before the place
pub levels_cut : (text : List ℕ) (i : ℕ) → i < length text → ((k : ℕ) → k < i → get_or text k 0 ≡ 47 → ⊥) → get_or text i 0 ≡ 47 → levels text ≡ take i text ∷ levels (take (length text - (i + 1)) (drop (i + 1) text))
levels_cut text i lt before at = rw (take_rest text (i + 1), add-one) (cut text i lt before at)

pub levels_whole : (text : List ℕ) → ((k : ℕ) → k < length text → get_or text k 0 ≡ 47 → ⊥) → levels text ≡ text ∷ []
levels_whole [] none = refl
levels_whole (x ∷ xs) none =
    slice_split-cons_no (λ b. b == 47) x xs (ne_eqb x 47 (none 0 (omega arith)))
    ∙ ap (onto_first x) (levels_whole xs (λ k h. none (suc k) (omega arith)))

-- what is put at the front of a level leaves a level
some : (x : ℕ) (parts : Levels) → is_last (onto_first x parts) ≡ false
some x [] = refl
some x (part ∷ parts) = refl

-- a text has a level
pub is_last_levels : (text : List ℕ) → is_last (levels text) ≡ false
is_last_levels [] = refl
is_last_levels (x ∷ xs) =
    elim (x == 47) as (λ v. is_last (cond v ([] ∷ levels xs) (onto_first x (levels xs))) ≡ false) [
      | true ↦ refl
      | false ↦ some x (levels xs)
    ]

one_more : (n : ℕ) → nat_le (n + 1) 32 ≡ nat_lt n 32
one_more n = grind (arith, nat_tests)

-- as many levels as `/`, and one more
pub is_shallow_count : (text : List ℕ) → is_shallow text ≡ nat_lt (count_by (λ byte. byte == 47) text) 32
is_shallow_count text =
    rw (length-slice_split (λ byte. byte == 47) text) (one_more (count_by (λ byte. byte == 47) text))
