-- Extending.antt: a log that takes the next place of a list still begins it.
use Rattle.std.proofs.Common.{◌≡◌, ℕ, ◌⊎◌, inl, inr, cond, List, [], ◌∷◌, ◌++◌, length, Some, ap, sym, ◌∙◌, subst}
use Rattle.std.specs.Prelude.{slice_get}
use Rattle.std.proofs.lemmas.Bool.{cases_eq, eq-eqb, ne_eqb}
use Rattle.agreement.specs.whole_logs.Service.{extended}
use Rattle.lists.specs.Lists.{IsPrefixOf}
use Rattle.lists.proofs.Prefixes.{prefix_same, prefix_push, prefix_next}

-- a log that takes the next place of a list
pub extended_front : {C : Type 0} (log whole : List C) (place : ℕ) (c : C) → IsPrefixOf log whole → slice_get whole place ≡ Some c →
    IsPrefixOf (extended place c log) whole
extended_front {C = C} log whole place c front stands = by_place (cases_eq place (length log))
  where
    by_place : (place ≡ length log) ⊎ (place ≡ length log → ⊥) → IsPrefixOf (extended place c log) whole
    by_place (inl e) =
        let same : extended place c log ≡ log ++ c ∷ [] = ap (λ b. cond b (log ++ c ∷ []) log) (eq-eqb place (length log) e) in
        subst (λ (us : List C). IsPrefixOf us whole) (sym same)
        (prefix_next log whole c front (ap (slice_get whole) (sym e) ∙ stands))
    by_place (inr ne) =
        let same : extended place c log ≡ log = ap (λ b. cond b (log ++ c ∷ []) log) (ne_eqb place (length log) ne) in
        subst (λ (us : List C). IsPrefixOf us whole) (sym same) front

pub extended_grows : {C : Type 0} (log : List C) (place : ℕ) (c : C) → IsPrefixOf log (extended place c log)
extended_grows {C = C} log place c = by_place (cases_eq place (length log))
  where
    by_place : (place ≡ length log) ⊎ (place ≡ length log → ⊥) → IsPrefixOf log (extended place c log)
    by_place (inl e) =
        let same : extended place c log ≡ log ++ c ∷ [] = ap (λ b. cond b (log ++ c ∷ []) log) (eq-eqb place (length log) e) in
        subst (λ (us : List C). IsPrefixOf log us) (sym same) (prefix_push log c)
    by_place (inr ne) =
        let same : extended place c log ≡ log = ap (λ b. cond b (log ++ c ∷ []) log) (ne_eqb place (length log) ne) in
        subst (λ (us : List C). IsPrefixOf log us) (sym same) (prefix_same log)
