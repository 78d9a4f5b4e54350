-- LanesAdded.antt: the bit of a lane that is added is set, and every other bit stays as it was. So the
-- lanes of some ports are known once each was added.
use Rattle.std.proofs.Common.{◌≡◌, ℕ, ◌+◌, ◌*◌, ◌%◌, ◌^◌, ◌<◌, ◌≤◌, ◌⊎◌, Bool, true, false, ◌||◌, ◌==◌, not, List, length, take, get_or, refl, sym, ◌∙◌, ap, subst, inl, inr, arith, zero-mul}
use Rattle.std.specs.List.{list_any}
use Rattle.std.specs.Prelude.{bit_and, bit_or}
use Rattle.std.proofs.lemmas.Bool.{cases_eq, eq-eqb, ne_eqb, or_right}
use Rattle.std.proofs.lemmas.List.{take_all}
use Rattle.std.proofs.lemmas.List.Folds.{list_any_more}
use Rattle.std.proofs.lemmas.Nat.{and_le_l, and_or_apart, and_or_self, pow_pos}
use Rattle.std.proofs.lemmas.Nat.Bits.{and_pow, bit_at-pow_other}
use Rattle.world_base.specs.declared.node_connections.port.Port.{Port}
use Rattle.streams.specs.ListedConnections.{is_lane_idle}
use Rattle.streams.specs.Ports.{is_of_lane}
use Rattle.streams.specs.declared.idle_lanes.IdleLanes.{IdleLanes}

not_none : (n : ℕ) → 0 < n → not (n == 0) ≡ true
not_none n some = ap not (ne_eqb n 0 (λ none. absurd (omega (arith, some, none))))

or_none : (b : Bool) → (b || false) ≡ b
or_none true = refl
or_none false = refl

-- the bit that is added
added : (lanes k : ℕ) → not (bit_and (bit_or lanes (2 ^ k)) (2 ^ k) == 0) ≡ true
added lanes k = ap (λ (n : ℕ). not (n == 0)) (and_or_self (2 ^ k) lanes) ∙ not_none (2 ^ k) (pow_pos k)

-- another bit
kept : (lanes k j : ℕ) → (j ≡ k → ⊥) → bit_and (bit_or lanes (2 ^ k)) (2 ^ j) ≡ bit_and lanes (2 ^ j)
kept lanes k j apart =
    and_or_apart (2 ^ j) lanes (2 ^ k)
    (and_pow (2 ^ k) j ∙ (ap (λ (bit : ℕ). bit * 2 ^ j) (bit_at-pow_other k j apart) ∙ zero-mul (2 ^ j)))

by_lane : (lanes k j : ℕ) → (j ≡ k) ⊎ (j ≡ k → ⊥)
    → not (bit_and (bit_or lanes (2 ^ k)) (2 ^ j) == 0) ≡ (not (bit_and lanes (2 ^ j) == 0) || (j == k))
by_lane lanes k j (inl same) =
    subst (λ (i : ℕ). not (bit_and (bit_or lanes (2 ^ k)) (2 ^ i) == 0) ≡ true) (sym same) (added lanes k)
    ∙ sym (or_right (not (bit_and lanes (2 ^ j) == 0)) (j == k) (eq-eqb j k same))
by_lane lanes k j (inr apart) =
    ap (λ (n : ℕ). not (n == 0)) (kept lanes k j apart)
    ∙ (sym (or_none (not (bit_and lanes (2 ^ j) == 0)))
    ∙ ap (λ (b : Bool). not (bit_and lanes (2 ^ j) == 0) || b) (sym (ne_eqb j k apart)))

-- a lane that is added
pub lane_added : (lanes bit p q : ℕ) → bit ≡ 2 ^ (p % 64)
    → not (bit_and (bit_or lanes bit) (2 ^ (q % 64)) == 0)
    ≡ (not (bit_and lanes (2 ^ (q % 64)) == 0) || (q % 64 == p % 64))
lane_added lanes bit p q is =
    ap (λ (b : ℕ). not (bit_and (bit_or lanes b) (2 ^ (q % 64)) == 0)) is
    ∙ by_lane lanes (p % 64) (q % 64) (cases_eq (q % 64) (p % 64))

-- no lane is among none
pub none_of : (port : ℕ) → not (bit_and 0 (2 ^ (port % 64)) == 0) ≡ false
none_of port =
    let least = and_le_l 0 (2 ^ (port % 64)) in
    let none : bit_and 0 (2 ^ (port % 64)) ≡ 0 = omega (arith, least) in
    ap (λ (n : ℕ). not (n == 0)) none

-- the lanes of one port more
pub one_more : (lanes more : IdleLanes) (ports : List Port) (i : ℕ) (d port : Port) → i < length ports
    → is_lane_idle more port ≡ (is_lane_idle lanes port || is_of_lane port (get_or ports i d))
    → is_lane_idle lanes port ≡ list_any (is_of_lane port) (take i ports)
    → is_lane_idle more port ≡ list_any (is_of_lane port) (take (i + 1) ports)
one_more lanes more ports i d port below adds was =
    adds
    ∙ (ap (λ (b : Bool). b || is_of_lane port (get_or ports i d)) was
    ∙ sym (list_any_more (is_of_lane port) ports i d below))

-- the lanes of all ports
pub of_all : (lanes : IdleLanes) (ports : List Port) (i : ℕ) (port : Port) → length ports ≤ i
    → is_lane_idle lanes port ≡ list_any (is_of_lane port) (take i ports)
    → is_lane_idle lanes port ≡ list_any (is_of_lane port) ports
of_all lanes ports i port all was = was ∙ ap (list_any (is_of_lane port)) (take_all i ports all)
