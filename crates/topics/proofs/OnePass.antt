-- What the bytes so far and those that are left say together.
use Rattle.std.proofs.Common.{◌≡◌, ℕ, ◌+◌, ◌<◌, List, [], ◌∷◌, Bool, true, false, ◌&&◌, ◌==◌, nat_lt, length, refl, ap, ◌∙◌, sym, arith, count_by}
use Rattle.std.proofs.lemmas.Bool.{and_parts}
use Rattle.std.proofs.lemmas.List.Splits.{slice_split-cons_yes, slice_split-cons_no}
use Rattle.topics.specs.Text.{Levels, levels, has_no_wildcard, is_shallow, has_wildcards_in_place}
use Rattle.std.specs.List.{onto_first}
use Rattle.topics.proofs.LevelByLevel.{is_shallow_count}
use Rattle.topics.proofs.FrontGoesBy.{no_wildcard_parts}

-- the levels have no wildcard
abbrev pub bare : Levels → Bool
bare [] = true
bare (level ∷ rest) = has_no_wildcard level && bare rest

bare_on : (b : ℕ) (parts : Levels) → (b == 43) ≡ false → (b == 35) ≡ false → bare parts ≡ true → bare (onto_first b parts) ≡ true
bare_on b [] plus hash h = rw (plus, hash) refl
bare_on b (part ∷ parts) plus hash h = rw (plus, hash) h

pub bare_levels : (text : List ℕ) → has_no_wildcard text ≡ true → bare (levels text) ≡ true
bare_levels [] h = refl
bare_levels (b ∷ text) h =
    let parts = no_wildcard_parts b text h in
    elim (b == 47) as (λ v. (b == 47) ≡ v → bare (levels (b ∷ text)) ≡ true) [
      | true ↦ λ is. rw (slice_split-cons_yes (λ c. c == 47) b text is) (bare_levels text parts.2)
      | false ↦ λ is.
          rw (slice_split-cons_no (λ c. c == 47) b text is)
          (bare_on b (levels text) parts.0 parts.1 (bare_levels text parts.2))
    ] refl

bare_in_place : (parts : Levels) → bare parts ≡ true → has_wildcards_in_place parts ≡ true
bare_in_place [] h = refl
bare_in_place (part ∷ parts) h =
    let both = and_parts (has_no_wildcard part) (bare parts) h in
    rw (both.0, bare_in_place parts both.1) refl

-- a text without wildcards has them in place
pub bare_is_in_place : (is_bare : Bool) (text : List ℕ) → is_bare ≡ has_no_wildcard text → is_bare ≡ true → is_bare ≡ has_wildcards_in_place (levels text)
bare_is_in_place is_bare text is bare_so = bare_so ∙ sym (bare_in_place (levels text) (bare_levels text (sym is ∙ bare_so)))

-- no byte is left, so all `/` were counted
pub shallow_is : (text rest : List ℕ) (slashes : ℕ) → length rest < 1 → count_by (λ byte. byte == 47) text ≡ slashes + count_by (λ byte. byte == 47) rest → nat_lt slashes 32 ≡ is_shallow text
shallow_is text [] slashes none all =
    sym (is_shallow_count text ∙ ap (λ n. nat_lt n 32) (all ∙ omega arith))
shallow_is text (b ∷ rest) slashes none all = absurd (omega arith)
