-- Lawful.antt: a configuration of nodes has no number above 15.
use Rattle.std.proofs.Common.{◌≡◌, ◌==◌, ◌&&◌, ◌<◌, ◌≤◌, ℕ, Bool, true, false, List, [], ◌∷◌, nat_le, length, refl, sym, subst, ◌∙◌, inl, inr, arith}
use Rattle.std.proofs.lemmas.Bool.{and_parts, cases_Bool, eqb-true, false≢true, le-leb, leb-true}
use Rattle.std.specs.List.{list_all, list_any}
use Rattle.ballot_base.specs.LawfulConfig.{are_rising, is_lawful, max_node}
use Rattle.script.specs.Scripts.{are_members, is_lawful_opening}
use Rattle.script.specs.Inside.Worlds.{is_at_most_max_node}

pub nodes_are_at_most : (count : ℕ) (ms : List ℕ) (b : Bool) → count ≤ 15 → b ≡ are_members count ms → b ≡ true → list_all is_at_most_max_node ms ≡ true
nodes_are_at_most count [] b few is all = refl
nodes_are_at_most count (m ∷ ms) b few is all =
    let (here, more) = and_parts (nat_le m count) (are_members count ms) (sym is ∙ all) in
    rw (le-leb m max_node (omega (arith, leb-true m count here)), nodes_are_at_most count ms true few (sym more) refl) refl

one_is_at_most : (p : ℕ) (ms : List ℕ) → list_all is_at_most_max_node ms ≡ true → list_any (λ member. member == p) ms ≡ true
    → is_at_most_max_node p ≡ true
one_is_at_most p [] bounded h = absurd (false≢true h)
one_is_at_most p (m ∷ ms) bounded h =
    let (here, more) = and_parts (is_at_most_max_node m) (list_all is_at_most_max_node ms) bounded in
    elim (cases_Bool (m == p)) [
      | inl same ↦ subst (λ n. is_at_most_max_node n ≡ true) (eqb-true m p same) here
      | inr other ↦ one_is_at_most p ms more (rw other at h)
    ]

primary_is_at_most : (ms : List ℕ) (p : ℕ) → list_all is_at_most_max_node ms ≡ true → is_lawful max_node ms p ≡ true → p ≤ 15
primary_is_at_most ms p bounded lawful =
    let (rising, sizes) = and_parts (are_rising max_node 0 ms) _ lawful in
    let (low, sizes2) = and_parts (nat_le 1 (length ms)) _ sizes in
    let (high, primary) = and_parts (nat_le (length ms) 7) _ sizes2 in
    leb-true p 15 (one_is_at_most p ms bounded primary)

last_fails : (a b c : Bool) → (c ≡ true → ⊥) → (a && (b && c)) ≡ false
last_fails false b c h = refl
last_fails true false c h = refl
last_fails true true true h = absurd (h refl)
last_fails true true false h = refl

-- a primary above 15 is not one of the nodes
pub large_primary : (count : ℕ) (ms : List ℕ) (p : ℕ) (b : Bool) → count ≤ 15 → b ≡ are_members count ms → b ≡ true → 15 < p
    → is_lawful_opening count ms p ≡ false
large_primary count ms p b few is all large =
    last_fails (nat_le count 15) (are_members count ms) (is_lawful max_node ms p) (λ h.
    let low = primary_is_at_most ms p (nodes_are_at_most count ms b few is all) h in omega (arith, low, large))
