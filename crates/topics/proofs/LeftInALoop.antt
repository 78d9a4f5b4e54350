-- What the loops of a match leave, and how they end.
use Rattle.std.proofs.Common.{◌≡◌, ℕ, ◌-◌, ◌≤◌, List, [], ◌∷◌, Bool, true, false, ◌==◌, ◌&&◌, cond, codes, bytes_eq, length, take, drop, refl, ap, ◌∙◌, sym, subst, arith}
use Rattle.std.specs.Prelude.{slice_index_or}
use Rattle.std.proofs.lemmas.Bool.{true≢false, eqb-true, eqb-false}
use Rattle.std.proofs.lemmas.List.{take_rest}
use Rattle.std.proofs.lemmas.Slice.Eq.{bytes_eq-Decides}
use Rattle.topics.specs.Matching.{starts_with}
use Rattle.topics.specs.Inside.{matches_levels, IsPair, IsLeft, IsApart, after_level, ends_match}
use Rattle.topics.proofs.FrontGoesBy.{front_goes_by}
use Rattle.topics.proofs.PlusGoesBy.{plus_goes_by}
use Rattle.topics.proofs.WhatIsLeft.{ended_is, nothing_left, hash_left, parent_left, other_left}

pub some_first : (byte : ℕ) (text : List ℕ) → starts_with byte text ≡ true → 1 ≤ length text
some_first byte [] h = absurd cc
some_first byte (b ∷ text) h = omega arith

pub left_then : (filter topic parts names others rest : List ℕ) → IsLeft filter topic parts names → IsLeft parts names others rest → IsLeft filter topic others rest
left_then filter topic parts names others rest h k = record { pair = k.pair; same = k.same ∙ h.same }

pub front_step : (filter topic parts names : List ℕ) → 1 ≤ length parts → 1 ≤ length names → slice_index_or parts 0 0 ≡ slice_index_or names 0 0 → IsLeft filter topic parts names
    → IsLeft filter topic (take (length parts - 1) (drop 1 parts)) (take (length names - 1) (drop 1 names))
front_step filter topic [] names some_p some_n same h = absurd (omega arith)
front_step filter topic (p ∷ parts) [] some_p some_n same h = absurd (omega arith)
front_step filter topic (p ∷ parts) (n ∷ names) some_p some_n same h =
    let k : IsLeft filter topic (p ∷ parts) (p ∷ names) = subst (λ (b : ℕ). IsLeft filter topic (p ∷ parts) (b ∷ names)) (sym same) h in
    rw (take_rest (p ∷ parts) 1, take_rest (n ∷ names) 1)
    (left_then filter topic (p ∷ parts) (p ∷ names) parts names k (front_goes_by p parts names k.pair))

pub plus_step : (filter topic parts names : List ℕ) → starts_with 43 parts ≡ true → IsLeft filter topic parts names
    → IsLeft filter topic (take (length parts - 1) (drop 1 parts)) (after_level names)
plus_step filter topic [] names plus h = absurd cc
plus_step filter topic (p ∷ parts) names plus h =
    let k : IsLeft filter topic (43 ∷ parts) names = subst (λ (b : ℕ). IsLeft filter topic (b ∷ parts) names) (eqb-true p 43 plus) h in
    rw (take_rest (p ∷ parts) 1)
    (left_then filter topic (43 ∷ parts) names parts (after_level names) k (plus_goes_by parts names k.pair))

-- texts that are apart match as their ends say
ends : (parts names : List ℕ) → IsPair parts names → IsApart parts names → starts_with 43 parts ≡ false → ends_match parts names ≡ matches_levels parts names
ends [] names pair apart plus = ended_is names ∙ sym (nothing_left names)
ends (p ∷ parts) names pair apart plus = go (p == 35) (p == 47) (bytes_eq parts (codes "#")) refl refl refl
  where
    go : (hash slash all : Bool) → (p == 35) ≡ hash → (p == 47) ≡ slash → bytes_eq parts (codes "#") ≡ all
        → cond hash true ((slash && all) && (length names == 0)) ≡ matches_levels (p ∷ parts) names
    go true slash all is is_slash is_all =
        let e = eqb-true p 35 is in
        sym (ap (λ (b : ℕ). matches_levels (b ∷ parts) names) e ∙ hash_left parts names (subst (λ (b : ℕ). IsPair (b ∷ parts) names) e pair).in_place)
    go false true true is is_slash is_all =
        let e = eqb-true p 47 is_slash in
        let f = (bytes_eq-Decides parts (codes "#")).0 is_all in
        let both : (p ∷ parts) ≡ (47 ∷ 35 ∷ []) = rw (e, f) refl in
        ended_is names ∙ sym (ap (λ (text : List ℕ). matches_levels text names) both ∙ parent_left names (subst (λ (text : List ℕ). IsApart text names) both apart))
    go false true false is is_slash is_all =
        sym (other_left p parts names (eqb-false p 43 plus) (eqb-false p 35 is) (λ e f. differs f is_all) apart)
      where
        differs : parts ≡ 35 ∷ [] → bytes_eq parts (codes "#") ≡ false → ⊥
        differs f h = true≢false (sym ((bytes_eq-Decides parts (codes "#")).1 f) ∙ h)
    go false false all is is_slash is_all =
        sym (other_left p parts names (eqb-false p 43 plus) (eqb-false p 35 is) (λ e f. eqb-false p 47 is_slash e) apart)

pub ends_left : (filter topic parts names : List ℕ) (answer : Bool) → IsLeft filter topic parts names → IsApart parts names → starts_with 43 parts ≡ false → answer ≡ ends_match parts names → answer ≡ matches_levels filter topic
ends_left filter topic parts names answer h apart plus is = is ∙ ends parts names h.pair apart plus ∙ h.same
