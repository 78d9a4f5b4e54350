-- Where identifiers are distinct, one entry at most waits for a PUBREC.
use Rattle.std.proofs.Common.{◌≡◌, ℕ, ◌+◌, ◌≤◌, Bool, true, false, ◌&&◌, ◌||◌, ◌==◌, if◌then◌else◌, List, [], ◌∷◌, filter, refl, ap, ap₂, ◌∙◌, sym, arith}
use Rattle.std.specs.List.{list_any}
use Rattle.session_base.specs.Queue.{Flight, is_pubrec, awaits_pubrec, ids_of}
use Rattle.session_base.proofs.CountedIdentifiers.{one_if, count}

-- the identifiers of those that wait for it, with one entry more
pub ids_if : (b : Bool) (i : ℕ) (flight : Flight) (fs : List Flight) → awaits_pubrec i flight ≡ b →
    ids_of (filter (awaits_pubrec i) (flight ∷ fs)) ≡ (if b then flight.0 ∷ ids_of (filter (awaits_pubrec i) fs) else ids_of (filter (awaits_pubrec i) fs))
ids_if true i flight fs e = rw e refl
ids_if false i flight fs e = rw e refl

test_of : (i : ℕ) (fs : List Flight) → count (λ id. i == id) (ids_of fs) ≡ 0 → filter (awaits_pubrec i) fs ≡ []
test_of i [] h = refl
test_of i (flight ∷ fs) h =
    elim (i == flight.0) as (λ (b : Bool). one_if b + count (λ id. i == id) (ids_of fs) ≡ 0 → (if b && is_pubrec flight.1 then flight ∷ filter (awaits_pubrec i) fs else filter (awaits_pubrec i) fs) ≡ []) [
      | true ↦ λ e. absurd (omega (arith, e))
      | false ↦ λ e. test_of i fs (omega (arith, e))
    ] h

-- what waits for PUBREC i: none, or one with the identifier i
pub data Found (i : ℕ) (fs : List Flight) : Type 0 where
  Nothing : filter (awaits_pubrec i) fs ≡ [] → list_any (awaits_pubrec i) fs ≡ false → Found i fs
  JustOne : ids_of (filter (awaits_pubrec i) fs) ≡ i ∷ [] → list_any (awaits_pubrec i) fs ≡ true → Found i fs

is_pubrec_now : (i id : ℕ) (b : Bool) → ((i == id) && b) ≡ true → i ≡ id
is_pubrec_now i id b e = elim (i == id) as (λ (c : Bool). (i == id) ≡ c → (c && b) ≡ true → i ≡ id) [ true ↦ λ same e. grind arith | false ↦ λ same e. absurd (cc) ] refl e

pub find : (i : ℕ) (fs : List Flight) → count (λ id. i == id) (ids_of fs) ≤ 1 → Found i fs
find i [] h = Found.Nothing refl refl
find i (flight ∷ fs) h =
    elim (awaits_pubrec i flight) as (λ (b : Bool). awaits_pubrec i flight ≡ b → Found i (flight ∷ fs)) [
      | true ↦ λ e. let same : i ≡ flight.0 = is_pubrec_now i flight.0 (is_pubrec flight.1) e in
          let none : count (λ id. i == id) (ids_of fs) ≡ 0 = only (i == flight.0) (grind arith) h in
          Found.JustOne (ids_if true i flight fs e ∙ ap₂ (λ id ids. id ∷ ids) (sym same) (ap ids_of (test_of i fs none))) (ap (λ b. b || list_any (awaits_pubrec i) fs) e)
      | false ↦ λ e. rest (find i fs (fewer (i == flight.0) h)) e
    ] refl
  where
    only : (b : Bool) → b ≡ true → one_if b + count (λ id. i == id) (ids_of fs) ≤ 1 → count (λ id. i == id) (ids_of fs) ≡ 0
    only true e k = omega (arith, k)
    only false e k = absurd (cc)

    fewer : (b : Bool) → one_if b + count (λ id. i == id) (ids_of fs) ≤ 1 → count (λ id. i == id) (ids_of fs) ≤ 1
    fewer true k = omega (arith, k)
    fewer false k = omega (arith, k)

    rest : Found i fs → awaits_pubrec i flight ≡ false → Found i (flight ∷ fs)
    rest (Found.Nothing a b) e = Found.Nothing (rw (e, a) refl) (rw (e, b) refl)
    rest (Found.JustOne a b) e = Found.JustOne (ids_if false i flight fs e ∙ a) (rw (e, b) refl)
