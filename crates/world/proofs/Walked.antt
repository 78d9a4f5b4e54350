-- Walked.antt: asking only the connections whose end is open is asking all, since the others are
-- skipped.
use Rattle.std.proofs.Common.{◌≡◌, inl, inr, ◌⊎◌, ◌≤◌, ◌<◌, ◌+◌, ◌-◌, ◌==◌, ◌&&◌, ℕ, zero, suc, Bool, true, false, List, Some, length, set, slice_get, take, refl, sym, ap, ◌∙◌, subst, arith}
use Rattle.std.proofs.lemmas.Bool.{eq-eqb, ne_eqb}
use Rattle.std.proofs.lemmas.List.{length-set, take-set, take_all}
use Rattle.std.proofs.lemmas.Option.{same_Some, slice_get_within}
use Rattle.headline.proofs.of_packet_world.Lists.{same_or_other}
use Rattle.world_pipes.specs.declared.clients.connection_slot.ConnectionSlot.{ConnectionSlot}
use Rattle.world.specs.Found.{slot_numbered}
use Rattle.world.specs.NodeOutput.{GatheredWhere, GathersAmong, leads_open_to}
use Rattle.world_pipes.specs.clients.SlotsAreValid.{open_from}
use Rattle.world.specs.Inside.PortOutput.{GatheringOrLost, GathersAt, marked}
use Rattle.world.specs.Inside.Steps.{IsTrace}
use Rattle.world.specs.World.{WorldState}
use Rattle.world.proofs.Gathered.{IsGathering, gathered, gathering_on, may_be_gathered}
use Rattle.world.proofs.OpenEnds.{IsNewest, newest, none_open, stands_at}
use Rattle.world.proofs.StandsThere.{numbered_at}
use Rattle.world_pipes.proofs.of_clients.Turned.{there}

-- ---- those that are skipped

never : (b : Bool) → (b && false) ≡ false
never true = refl
never false = refl

not_asked : (node number : ℕ) (w : WorldState) (p : ConnectionSlot) → slice_get w.connections number ≡ Some p → p.is_open ≡ false
    → leads_open_to node (slot_numbered (suc number) w.connections) ≡ false
not_asked node number w p at shut =
    ap (leads_open_to node)
    (numbered_at (suc number) w.connections (Some p) (omega arith) (ap (slice_get w.connections) (let same : suc number - 1 ≡ number = omega arith in same) ∙ at))
    ∙ ap (λ (b : Bool). (p.node == node) && b) shut
    ∙ never (p.node == node)

passed : (node count number : ℕ) (initial now : WorldState) → leads_open_to node (slot_numbered (suc number) now.connections) ≡ false
    → IsGathering node count (suc number) initial now → IsGathering node count number initial now
passed node count number initial now shut g =
    record {
      goes = g.goes;
      rest = λ later more. g.rest later (now, subst (λ (b : Bool). GatheredWhere false b (suc number) now now) (sym shut) refl, more);
    }

-- from this one on all are closed
abbrev AreShut : ℕ → ℕ → WorldState → Type 0
AreShut low high w = (j : ℕ) (p : ConnectionSlot) → low ≤ j → j < high → slice_get w.connections j ≡ Some p → p.is_open ≡ false

all_passed : (node count number low : ℕ) (initial now : WorldState) → low ≤ number → number ≤ length now.connections → AreShut low number now
    → IsGathering node count number initial now → IsGathering node count low initial now
all_passed node count zero low initial now below within shut g =
    subst (λ (k : ℕ). IsGathering node count k initial now) (let same : zero ≡ low = omega (arith, below) in same) g
all_passed node count (suc n) low initial now below within shut g = by (same_or_other low (suc n)) (all_passed node count n low initial now)
  where
    by : (low ≡ suc n) ⊎ (low ≡ suc n → ⊥)
        → (low ≤ n → n ≤ length now.connections → AreShut low n now → IsGathering node count n initial now → IsGathering node count low initial now)
        → IsGathering node count low initial now
    by (inl same) later = subst (λ (k : ℕ). IsGathering node count k initial now) (sym same) g
    by (inr other) later =
        let p = there now.connections n (omega (arith, within)) in
        later (omega (arith, below, other)) (omega (arith, within)) (λ j q a b e. shut j q a (omega (arith, b)) e)
        (passed node count n initial now (not_asked node n now p.0 p.1 (shut n p.0 (omega (arith, below, other)) (omega arith) p.1)) g)

-- ---- the walk

-- this many of those whose end is open are still to be asked
pub record IsWalking (node at : ℕ) (initial now : WorldState) : Type 0 where
  pub number : ℕ
  pub within : number ≤ length now.connections
  pub many : length (open_from 1 (take number now.connections)) ≡ at
  pub gathering : IsGathering node (length initial.connections) number initial now

pub walk_begins : (node at : ℕ) (w : WorldState) → at ≡ length (open_from 1 w.connections) → IsTrace w w → IsWalking node at w w
walk_begins node at w counted rests =
    record {
      number = length w.connections;
      within = omega arith;
      many = ap (λ (l : List ConnectionSlot). length (open_from 1 l)) (take_all (length w.connections) w.connections (omega arith)) ∙ sym counted;
      gathering = record { goes = rests; rest = λ later more. more };
    }

-- the newest of them, by its place among them
next_found : (node at : ℕ) (initial now : WorldState) (w : IsWalking node (suc at) initial now) (r : IsNewest now.connections w.number at)
    → slice_get (open_from 1 now.connections) at ≡ Some (1 + r.i)
next_found node at initial now w r =
    subst (λ (k : ℕ). slice_get (open_from 1 now.connections) k ≡ Some (1 + r.i)) r.before (stands_at 1 now.connections r.i r.place r.found r.up)

there_is : (node at : ℕ) (initial now : WorldState) → IsWalking node (suc at) initial now → at < length (open_from 1 now.connections)
there_is node at initial now w =
    let r = newest now.connections w.number at w.within w.many in
    slice_get_within (open_from 1 now.connections) at (1 + r.i) (next_found node at initial now w r)

walk_on : (node at : ℕ) (initial now new : WorldState) → IsWalking node (suc at) initial now → IsTrace now new → GathersAt node at now new → IsWalking node at initial new
walk_on node at initial now new w goes a =
    let r = newest now.connections w.number at w.within w.many in
    let one : a.number ≡ 1 + r.i = same_Some a.number (1 + r.i) (sym a.stands ∙ next_found node at initial now w r) in
    let same : a.number ≡ suc r.i = omega (arith, one) in
    let less : a.number - 1 ≡ r.i = omega (arith, same) in
    let low = r.low in
    let within = w.within in
    let many = a.many in
    let below : suc r.i ≤ w.number = omega (arith, low) in
    let g = all_passed node (length initial.connections) w.number (suc r.i) initial now below w.within (λ j p from to e. r.after j p (omega (arith, from)) to e) w.gathering in
    record {
      number = r.i;
      within = omega (arith, low, within, many);
      many = ap (λ (l : List ConnectionSlot). length (open_from 1 l)) (subst (λ (k : ℕ). take k new.connections ≡ take k now.connections) less a.others) ∙ r.before;
      gathering = gathering_on node (length initial.connections) (suc r.i) r.i initial now new (omega arith) (let e : r.i ≡ suc r.i - 1 = omega arith in e) g goes
          (subst (λ (k : ℕ). GatheredWhere false (leads_open_to node (slot_numbered k now.connections)) k now new) same a.gathers);
    }

pub next_there : (node at next : ℕ) (initial now : WorldState) → 0 < at → next ≡ at - 1 → IsWalking node at initial now → next < length (open_from 1 now.connections)
next_there node at next initial now some is w =
    there_is node next initial now (subst (λ (k : ℕ). IsWalking node k initial now) (let e : at ≡ suc next = omega (arith, some, is) in e) w)

pub walk_goes_on : (node at next : ℕ) (initial now new : WorldState) → 0 < at → next ≡ at - 1 → IsWalking node at initial now → IsTrace now new → GathersAt node next now new
    → IsWalking node next initial new
walk_goes_on node at next initial now new some is w goes a =
    walk_on node next initial now new (subst (λ (k : ℕ). IsWalking node k initial now) (let e : at ≡ suc next = omega (arith, some, is) in e) w) goes a

pub walk_ends : (node at : ℕ) (initial now : WorldState) → at ≡ 0 → IsWalking node at initial now → GathersAmong false (length initial.connections) node initial now
walk_ends node at initial now end w =
    gathered node (length initial.connections) 0 initial now refl
    (all_passed node (length initial.connections) w.number 0 initial now (omega arith) w.within
    (λ j p from to e. none_open now.connections w.number w.within (w.many ∙ end) j p to e) w.gathering)

-- ---- one of those whose end is open

-- it leads to another node
pub gathers_at_none : (node at number : ℕ) (place : ConnectionSlot) (w : WorldState) → slice_get (open_from 1 w.connections) at ≡ Some number → slice_get w.connections (number - 1) ≡ Some place
    → 0 < number → (place.node ≡ node → ⊥) → GathersAt node at w w
gathers_at_none node at number place w stands found positive other =
    record {
      number = number;
      stands = stands;
      gathers = subst (λ (b : Bool). GatheredWhere false b number w w) (sym elsewhere) refl;
      others = refl;
      many = refl;
    }
  where
    elsewhere : leads_open_to node (slot_numbered number w.connections) ≡ false
    elsewhere =
        ap (leads_open_to node) (numbered_at number w.connections (Some place) positive found) ∙ ap (λ (b : Bool). b && place.is_open) (ne_eqb place.node node other)

-- it leads to the node, and this is known about its end
pub gathers_at_one : (node at number : ℕ) (place : ConnectionSlot) (is_open : Bool) (old mid new : WorldState) → slice_get (open_from 1 old.connections) at ≡ Some number
    → slice_get old.connections (number - 1) ≡ Some place → 0 < number → place.is_open ≡ true → place.node ≡ node → mid.connections ≡ old.connections
    → GatheringOrLost number place old is_open mid → new ≡ marked number place is_open mid → GathersAt node at old new
gathers_at_one node at number place is_open old mid new stands found positive up leads same hands is =
    record {
      number = number;
      stands = stands;
      gathers = subst (λ (b : Bool). GatheredWhere false b number old new) (sym asked) (may_be_gathered number place is_open old mid new found positive up hands is);
      others = ap (take (number - 1)) after ∙ take-set mid.connections (number - 1) (record place { is_open = is_open }) ∙ ap (take (number - 1)) same;
      many = ap length after ∙ length-set mid.connections (number - 1) (record place { is_open = is_open }) ∙ ap length same;
    }
  where
    after : new.connections ≡ set mid.connections (number - 1) (record place { is_open = is_open })
    after = ap (λ (w : WorldState). w.connections) is

    asked : leads_open_to node (slot_numbered number old.connections) ≡ true
    asked =
        ap (leads_open_to node) (numbered_at number old.connections (Some place) positive found)
        ∙ ap (λ (b : Bool). b && place.is_open) (eq-eqb place.node node leads)
        ∙ up
