-- A byte with which filter and topic both begin is skipped: what is left matches if the whole does.
use Rattle.std.proofs.Common.{◌≡◌, ℕ, List, [], ◌∷◌, Bool, true, false, not, ◌&&◌, ◌||◌, ◌==◌, codes, bytes_eq, refl, subst, ◌∙◌}
use Rattle.std.specs.List.{onto_first}
use Rattle.std.proofs.lemmas.Bool.{and_parts, eq-eqb}
use Rattle.std.proofs.lemmas.List.Splits.{slice_split-cons_yes, slice_split-cons_no}
use Rattle.topics.specs.Text.{Levels, levels, contains_byte, has_no_wildcard, may_stand, has_wildcards_in_place, is_last}
use Rattle.topics.specs.Matching.{matches_rest}
use Rattle.topics.specs.Inside.{IsPair, IsLeft}
use Rattle.topics.proofs.LevelByLevel.{is_last_levels}

-- a text without wildcards, byte by byte
pub no_wildcard_parts : (b : ℕ) (text : List ℕ) → has_no_wildcard (b ∷ text) ≡ true → ((b == 43) ≡ false) × ((b == 35) ≡ false) × (has_no_wildcard text ≡ true)
no_wildcard_parts b text h = go (b == 43) (b == 35) (contains_byte 43 text) (contains_byte 35 text) h
  where
    go : (p q r s : Bool) → (not (p || r) && not (q || s)) ≡ true → (p ≡ false) × (q ≡ false) × ((not r && not s) ≡ true)
    go false false r s h = (refl, refl, h)
    go true q r s h = absurd cc
    go false true false s h = absurd cc
    go false true true s h = absurd cc

-- a level without wildcards is neither of them
pub no_plus : (level : List ℕ) → has_no_wildcard level ≡ true → bytes_eq level (codes "+") ≡ false
no_plus [] h = refl
no_plus (b ∷ level) h = rw ((no_wildcard_parts b level h).0) refl

pub no_hash : (level : List ℕ) → has_no_wildcard level ≡ true → bytes_eq level (codes "#") ≡ false
no_hash [] h = refl
no_hash (b ∷ level) h = rw ((no_wildcard_parts b level h).1) refl

-- a level that begins with another byte than a wildcard has none
no_other : (b : ℕ) (level : List ℕ) (last : Bool) → (b == 43) ≡ false → (b == 35) ≡ false → may_stand (b ∷ level) last ≡ true → has_no_wildcard (b ∷ level) ≡ true
no_other b level last plus hash h =
    go (has_no_wildcard (b ∷ level)) (b == 43) (b == 35) (bytes_eq level []) last plus hash h
  where
    go : (a p q e last : Bool) → p ≡ false → q ≡ false → (a || (p && e) || ((q && e) && last)) ≡ true → a ≡ true
    go true p q e last x y h = refl
    go false false false e last x y h = absurd cc
    go false true q e last x y h = absurd cc
    go false false true e last x y h = absurd cc

-- within a level
within : (b : ℕ) (filter topic : Levels) → is_last filter ≡ false → is_last topic ≡ false → (b == 43) ≡ false → (b == 35) ≡ false → has_wildcards_in_place (onto_first b filter) ≡ true
    → (has_wildcards_in_place filter ≡ true) × (matches_rest filter topic ≡ matches_rest (onto_first b filter) (onto_first b topic))
within b [] topic some_f some_t plus hash h = absurd cc
within b (f ∷ filter) [] some_f some_t plus hash h = absurd cc
within b (f ∷ filter) (t ∷ topic) some_f some_t plus hash h =
    let both = and_parts (may_stand (b ∷ f) (is_last filter)) (has_wildcards_in_place filter) h in
    let bare : has_no_wildcard f ≡ true = (no_wildcard_parts b f (no_other b f (is_last filter) plus hash both.0)).2 in
    (rw (bare, both.1) refl, rw (no_plus f bare, no_hash f bare, plus, hash, eq-eqb b b refl) refl)

pub front_goes_by : (b : ℕ) (filter topic : List ℕ) → IsPair (b ∷ filter) (b ∷ topic) → IsLeft (b ∷ filter) (b ∷ topic) filter topic
front_goes_by b filter topic pair =
    let name = no_wildcard_parts b topic pair.name in
    elim (b == 47) as (λ v. (b == 47) ≡ v → IsLeft (b ∷ filter) (b ∷ topic) filter topic) [
      | true ↦ λ is.
          let cut = λ (text : List ℕ). slice_split-cons_yes (λ c. c == 47) b text is in
          record {
            pair = record { in_place = subst (λ v. has_wildcards_in_place v ≡ true) (cut filter) pair.in_place; name = name.2 };
            same = rw (cut filter, cut topic) refl;
          }
      | false ↦ λ is.
          let on = λ (text : List ℕ). slice_split-cons_no (λ c. c == 47) b text is in
          let one = within b (levels filter) (levels topic) (is_last_levels filter) (is_last_levels topic) name.0 name.1
          (subst (λ v. has_wildcards_in_place v ≡ true) (on filter) pair.in_place) in
          record {
            pair = record { in_place = one.0; name = name.2 };
            same = one.1 ∙ rw (on filter, on topic) refl;
          }
    ] refl
