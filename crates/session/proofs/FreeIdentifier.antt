-- The search for a free identifier.
use native.Mathlib.Omega.{arith}
use Rattle.std.proofs.Common.{◌≡◌, ◌<◌, ℕ, zero, suc, ◌+◌, Bool, true, false, ◌||◌, List, [], ◌∷◌, ◌++◌, map, refl, ap, ◌∙◌, sym}
use Rattle.std.specs.List.{list_any}
use Rattle.indexmap.specs.IndexMap.{insert_entry}
use Rattle.session_base.specs.Identifiers.{free_from}
use Rattle.lists.specs.Lists.{has_id}

pub stop : (left id : ℕ) (busy : List ℕ) → has_id id busy ≡ false → free_from left id busy ≡ id
stop zero id busy free = refl
stop (suc left) id busy free = rw free refl

pub on : (left id : ℕ) (busy : List ℕ) → has_id id busy ≡ true → free_from (suc left) id busy ≡ free_from left (suc id) busy
on left id busy used = rw used refl

one : (id : ℕ) → id + 1 ≡ suc id
one id = omega arith

-- one step of the search
pub next : (left counter id len : ℕ) (busy : List ℕ) (least : ℕ) → has_id id busy ≡ true → left + counter ≡ len → counter < len →
    free_from left id busy ≡ least → (x : ℕ) × (x + (counter + 1) ≡ len) × (free_from x (id + 1) busy ≡ least)
next zero counter id len busy least used sum below is = absurd (omega (arith, sum, below))
next (suc left) counter id len busy least used sum below is = (left, omega (arith, sum), ap (λ i. free_from left i busy) (one id) ∙ (sym (on left id busy used) ∙ is))

neither : (b c : Bool) → (b || c) ≡ false → (b ≡ false) × (c ≡ false)
neither false false is = (refl, refl)
neither false true is = absurd (cc)
neither true c is = absurd (cc)

-- a key that is not there comes last
pub put_new : {K V : Type 0} (eq : K → K → Bool) (k : K) (v : V) (es : List (K × V)) →
    list_any (eq k) (map (λ e. e.0) es) ≡ false → insert_entry eq es k v ≡ es ++ (k, v) ∷ []
put_new eq k v [] absent = refl
put_new eq k v (e ∷ es) absent =
    let both = neither (eq k e.0) (list_any (eq k) (map (λ e. e.0) es)) absent in
    rw both.0 (ap (λ rest. e ∷ rest) (put_new eq k v es both.1))
