-- Identifiers are counted: lists with the same counts have one length and one least free number, and the least
-- free number is not in its list.
use Rattle.std.proofs.Common.{◌≡◌, ℕ, ◌+◌, ◌≤◌, zero, suc, Bool, true, false, not, ◌||◌, ◌==◌, nat_le, if◌then◌else◌, List, [], ◌∷◌, ◌++◌, length, refl, ap, ap₂, ◌∙◌, sym, arith}
use Rattle.lists.specs.Lists.{has_id}
use Rattle.session_base.specs.Identifiers.{free_from, least_free}

-- 1 if the test holds
abbrev pub one_if : Bool → ℕ
one_if true = 1
one_if false = 0

-- how many pass the test
abbrev pub count : (ℕ → Bool) → List ℕ → ℕ
count test [] = 0
count test (id ∷ ids) = one_if (test id) + count test ids

-- each identifier as often in both
abbrev pub SameIds : List ℕ → List ℕ → Type 0
SameIds ids others = (test : ℕ → Bool) → count test ids ≡ count test others

pub count-append : (test : ℕ → Bool) (ids others : List ℕ) → count test (ids ++ others) ≡ count test ids + count test others
count-append test [] others = omega arith
count-append test (id ∷ ids) others = omega (arith, count-append test ids others)

length_count : (ids : List ℕ) → length ids ≡ count (λ id. true) ids
length_count [] = refl
length_count (id ∷ ids) = omega (arith, length_count ids)

pub same_length : (ids others : List ℕ) → SameIds ids others → length ids ≡ length others
same_length ids others same = length_count ids ∙ same (λ id. true) ∙ sym (length_count others)

has_counted : (i : ℕ) (ids : List ℕ) → has_id i ids ≡ not (count (λ id. i == id) ids == 0)
has_counted i [] = refl
has_counted i (id ∷ ids) = one (i == id) (has_counted i ids) ∙ sym (two (i == id))
  where
    one : (b : Bool) → has_id i ids ≡ not (count (λ other. i == other) ids == 0) → (b || has_id i ids) ≡ (if b then true else not (count (λ other. i == other) ids == 0))
    one true e = refl
    one false e = e

    two : (b : Bool) → not (one_if b + count (λ other. i == other) ids == 0) ≡ (if b then true else not (count (λ other. i == other) ids == 0))
    two true = grind arith
    two false = grind arith

pub not_counted : (i : ℕ) (ids : List ℕ) → has_id i ids ≡ false → count (λ id. i == id) ids ≡ 0
not_counted i ids e = grind (arith, has_counted i ids)

pub counted : (i : ℕ) (ids : List ℕ) → has_id i ids ≡ true → 1 ≤ count (λ id. i == id) ids
counted i ids e = grind (arith, has_counted i ids)

pub not_among : (i : ℕ) (ids : List ℕ) → count (λ id. i == id) ids ≡ 0 → has_id i ids ≡ false
not_among i ids e = has_counted i ids ∙ ap (λ n. not (n == 0)) e

same_has : (i : ℕ) (ids others : List ℕ) → SameIds ids others → has_id i ids ≡ has_id i others
same_has i ids others same =
    has_counted i ids ∙ ap (λ n. not (n == 0)) (same (λ id. i == id)) ∙ sym (has_counted i others)

same_free : (fuel i : ℕ) (ids others : List ℕ) → SameIds ids others → free_from fuel i ids ≡ free_from fuel i others
same_free zero i ids others same = refl
same_free (suc fuel) i ids others same =
    ap₂ (λ b n. if b then n else i) (same_has i ids others same) (same_free fuel (suc i) ids others same)

pub same_least : (ids others : List ℕ) → SameIds ids others → least_free ids ≡ least_free others
same_least ids others same =
    ap (λ n. free_from n 1 ids) (same_length ids others same) ∙ same_free (length others) 1 ids others same

-- ---- the least free number is free

split_one : (i id : ℕ) → one_if (nat_le i id) ≡ one_if (i == id) + one_if (nat_le (suc i) id)
split_one i id = grind arith

pub split_count : (i : ℕ) (ids : List ℕ) → count (nat_le i) ids ≡ count (λ id. i == id) ids + count (nat_le (suc i)) ids
split_count i [] = refl
split_count i (id ∷ ids) = omega (arith, split_one i id, split_count i ids)

free_found : (fuel i : ℕ) (ids : List ℕ) → count (nat_le i) ids ≤ fuel → count (λ id. free_from fuel i ids == id) ids ≡ 0
free_found zero i ids few = omega (arith, split_count i ids)
free_found (suc fuel) i ids few =
    elim (has_id i ids) as (λ (b : Bool). has_id i ids ≡ b → count (λ id. (if b then free_from fuel (suc i) ids else i) == id) ids ≡ 0) [
      | true ↦ λ e. free_found fuel (suc i) ids (omega (arith, split_count i ids, counted i ids e))
      | false ↦ λ e. not_counted i ids e
    ] refl

pub count_few : (test : ℕ → Bool) (ids : List ℕ) → count test ids ≤ length ids
count_few test [] = omega arith
count_few test (id ∷ ids) = elim (test id) as (λ b. one_if b + count test ids ≤ suc (length ids)) [ true ↦ omega (arith, count_few test ids) | false ↦ omega (arith, count_few test ids) ]

pub least_is_free : (ids : List ℕ) → count (λ id. least_free ids == id) ids ≡ 0
least_is_free ids = free_found (length ids) 1 ids (count_few (nat_le 1) ids)
