-- OpenEnds.antt: the connections whose end at their node is open, by their numbers.
use Rattle.std.proofs.Common.{◌≡◌, inl, inr, ◌⊎◌, ◌≤◌, ◌<◌, ◌+◌, ◌-◌, ℕ, zero, suc, Bool, true, false, if◌then◌else◌, List, [], ◌∷◌, ◌++◌, Some, get_or, length, set, slice_get, take, refl, sym, ap, ap₂, ◌∙◌, arith}
use Rattle.std.specs.List.{remove}
use Rattle.std.proofs.lemmas.List.{length-append}
use Rattle.std.proofs.lemmas.Option.{none-some, same_Some}
use Rattle.master.proofs.Counting.{get_there}
use Rattle.headline.proofs.of_packet_world.Lists.{same_or_other, take_next}
use Rattle.world_pipes.specs.declared.clients.connection_slot.ConnectionSlot.{ConnectionSlot}
use Rattle.world_pipes.specs.clients.SlotsAreValid.{open_from}
use Rattle.world_pipes.proofs.of_clients.Turned.{there}

open_up : (s : ℕ) (p : ConnectionSlot) (ps : List ConnectionSlot) → p.is_open ≡ true → open_from s (p ∷ ps) ≡ s ∷ open_from (suc s) ps
open_up s p ps e = ap (λ (b : Bool). if b then s ∷ open_from (suc s) ps else open_from (suc s) ps) e

open_shut : (s : ℕ) (p : ConnectionSlot) (ps : List ConnectionSlot) → p.is_open ≡ false → open_from s (p ∷ ps) ≡ open_from (suc s) ps
open_shut s p ps e = ap (λ (b : Bool). if b then s ∷ open_from (suc s) ps else open_from (suc s) ps) e

abbrev shut : ConnectionSlot → ConnectionSlot
shut place = record place { is_open = false }

-- ---- one of them

-- the connection of this number, which is at this place among them
pub record IsOpenAt (s : ℕ) (ps : List ConnectionSlot) (at number : ℕ) : Type 0 where
  pub i : ℕ
  pub numbered : number ≡ s + i
  pub place : ConnectionSlot
  pub found : slice_get ps i ≡ Some place
  pub up : place.is_open ≡ true
  -- if it is closed, it is no longer one of them
  pub closed : open_from s (set ps i (record place { is_open = false })) ≡ remove (open_from s ps) at

first_open : (s : ℕ) (p : ConnectionSlot) (ps : List ConnectionSlot) (at number : ℕ) → p.is_open ≡ true → ((k : ℕ) → slice_get (open_from (suc s) ps) k ≡ Some number → IsOpenAt (suc s) ps k number)
    → slice_get (s ∷ open_from (suc s) ps) at ≡ Some number → IsOpenAt s (p ∷ ps) at number
first_open s p ps zero number is later e =
    let same : s ≡ number = same_Some s number e in
    record {
      i = 0;
      numbered = omega (arith, same);
      place = p;
      found = refl;
      up = is;
      closed = open_shut s (shut p) ps refl ∙ sym (ap (λ (l : List ℕ). remove l 0) (open_up s p ps is));
    }
first_open s p ps (suc k) number is later e =
    let r = later k e in
    let counted = r.numbered in
    record {
      i = suc r.i;
      numbered = omega (arith, counted);
      place = r.place;
      found = r.found;
      up = r.up;
      closed = open_up s p (set ps r.i (shut r.place)) is ∙ ap (λ (l : List ℕ). s ∷ l) r.closed ∙ sym (ap (λ (l : List ℕ). remove l (suc k)) (open_up s p ps is));
    }

first_shut : (s : ℕ) (p : ConnectionSlot) (ps : List ConnectionSlot) (at number : ℕ) → p.is_open ≡ false → ((k : ℕ) → slice_get (open_from (suc s) ps) k ≡ Some number → IsOpenAt (suc s) ps k number)
    → slice_get (open_from (suc s) ps) at ≡ Some number → IsOpenAt s (p ∷ ps) at number
first_shut s p ps at number is later e =
    let r = later at e in
    let counted = r.numbered in
    record {
      i = suc r.i;
      numbered = omega (arith, counted);
      place = r.place;
      found = r.found;
      up = r.up;
      closed = open_shut s p (set ps r.i (shut r.place)) is ∙ r.closed ∙ sym (ap (λ (l : List ℕ). remove l at) (open_shut s p ps is));
    }

pub open_at : (s : ℕ) (ps : List ConnectionSlot) (at number : ℕ) → slice_get (open_from s ps) at ≡ Some number → IsOpenAt s ps at number
open_at s [] at number e = absurd (none-some number e)
open_at s (p ∷ ps) at number e = by p.is_open refl (λ k. open_at (suc s) ps k number)
  where
    by : (b : Bool) → p.is_open ≡ b → ((k : ℕ) → slice_get (open_from (suc s) ps) k ≡ Some number → IsOpenAt (suc s) ps k number) → IsOpenAt s (p ∷ ps) at number
    by true is later = first_open s p ps at number is later (sym (ap (λ (l : List ℕ). slice_get l at) (open_up s p ps is)) ∙ e)
    by false is later = first_shut s p ps at number is later (sym (ap (λ (l : List ℕ). slice_get l at) (open_shut s p ps is)) ∙ e)

-- the first of them has number 1
pub record StandsOpen (ps : List ConnectionSlot) (number : ℕ) : Type 0 where
  pub positive : 0 < number
  pub place : ConnectionSlot
  pub found : slice_get ps (number - 1) ≡ Some place
  pub up : place.is_open ≡ true

pub stands_open : (ps : List ConnectionSlot) (at number : ℕ) → slice_get (open_from 1 ps) at ≡ Some number → StandsOpen ps number
stands_open ps at number e =
    let r = open_at 1 ps at number e in
    let counted = r.numbered in
    record {
      positive = omega (arith, counted);
      place = r.place;
      found = ap (slice_get ps) (let less : number - 1 ≡ r.i = omega (arith, counted) in less) ∙ r.found;
      up = r.up;
    }

-- the number that is at a place of the list that a world keeps
pub opened : (kept : List ℕ) (ps : List ConnectionSlot) (at number : ℕ) → kept ≡ open_from 1 ps → at < length (open_from 1 ps) → number ≡ get_or kept at number
    → slice_get (open_from 1 ps) at ≡ Some number
opened kept ps at number is few there' =
    get_there (open_from 1 ps) at number few (there' ∙ ap (λ (l : List ℕ). get_or l at number) is)

-- it is closed, and the others stay as they are
pub closes : (ps : List ConnectionSlot) (at number : ℕ) (place : ConnectionSlot) → slice_get (open_from 1 ps) at ≡ Some number → slice_get ps (number - 1) ≡ Some place
    → remove (open_from 1 ps) at ≡ open_from 1 (set ps (number - 1) (record place { is_open = false }))
closes ps at number place e stands =
    let r = open_at 1 ps at number e in
    let counted = r.numbered in
    let less : number - 1 ≡ r.i = omega (arith, counted) in
    let same : place ≡ r.place = same_Some place r.place (sym stands ∙ ap (slice_get ps) less ∙ r.found) in
    sym (ap (λ (p : ConnectionSlot). open_from 1 (set ps (number - 1) (shut p))) same ∙ ap (λ (k : ℕ). open_from 1 (set ps k (shut r.place))) less ∙ r.closed)

-- the place of one whose end is open
pub stands_at : (s : ℕ) (ps : List ConnectionSlot) (i : ℕ) (place : ConnectionSlot) → slice_get ps i ≡ Some place → place.is_open ≡ true
    → slice_get (open_from s ps) (length (open_from s (take i ps))) ≡ Some (s + i)
stands_at s [] i place e up = absurd (none-some place e)
stands_at s (p ∷ ps) zero place e up =
    ap (λ (l : List ℕ). slice_get l 0) (open_up s p ps (ap (λ (z : ConnectionSlot). z.is_open) (same_Some p place e) ∙ up))
    ∙ ap Some (let same : s ≡ s + 0 = omega arith in same)
stands_at s (p ∷ ps) (suc i) place e up =
    by p.is_open refl (stands_at (suc s) ps i place e up ∙ ap Some (let same : suc s + i ≡ s + suc i = omega arith in same))
  where
    by : (b : Bool) → p.is_open ≡ b → slice_get (open_from (suc s) ps) (length (open_from (suc s) (take i ps))) ≡ Some (s + suc i)
        → slice_get (open_from s (p ∷ ps)) (length (open_from s (p ∷ take i ps))) ≡ Some (s + suc i)
    by true is later = ap₂ slice_get (open_up s p ps is) (ap length (open_up s p (take i ps) is)) ∙ later
    by false is later = ap₂ slice_get (open_shut s p ps is) (ap length (open_shut s p (take i ps) is)) ∙ later

-- ---- one more

pub open_more : (s : ℕ) (ps : List ConnectionSlot) (p : ConnectionSlot) → p.is_open ≡ true → open_from s (ps ++ p ∷ []) ≡ open_from s ps ++ (s + length ps) ∷ []
open_more s [] p up = open_up s p [] up ∙ ap (λ (k : ℕ). k ∷ []) (let same : s ≡ s + 0 = omega arith in same)
open_more s (q ∷ ps) p up =
    by q.is_open refl (open_more (suc s) ps p up ∙ ap (λ (k : ℕ). open_from (suc s) ps ++ k ∷ []) (let same : suc s + length ps ≡ s + suc (length ps) = omega arith in same))
  where
    by : (b : Bool) → q.is_open ≡ b → open_from (suc s) (ps ++ p ∷ []) ≡ open_from (suc s) ps ++ (s + suc (length ps)) ∷ []
        → open_from s (q ∷ (ps ++ p ∷ [])) ≡ open_from s (q ∷ ps) ++ (s + suc (length ps)) ∷ []
    by true is more =
        open_up s q (ps ++ p ∷ []) is ∙ ap (λ (l : List ℕ). s ∷ l) more ∙ sym (ap (λ (l : List ℕ). l ++ (s + suc (length ps)) ∷ []) (open_up s q ps is))
    by false is more = open_shut s q (ps ++ p ∷ []) is ∙ more ∙ sym (ap (λ (l : List ℕ). l ++ (s + suc (length ps)) ∷ []) (open_shut s q ps is))

pub one_opened : (ps : List ConnectionSlot) (number : ℕ) (p : ConnectionSlot) → number ≡ suc (length ps) → p.is_open ≡ true → open_from 1 ps ++ number ∷ [] ≡ open_from 1 (ps ++ p ∷ [])
one_opened ps number p counted up =
    ap (λ (k : ℕ). open_from 1 ps ++ k ∷ []) (let same : number ≡ 1 + length ps = omega (arith, counted) in same) ∙ sym (open_more 1 ps p up)

open_no_more : (s : ℕ) (ps : List ConnectionSlot) (p : ConnectionSlot) → p.is_open ≡ false → open_from s (ps ++ p ∷ []) ≡ open_from s ps
open_no_more s [] p is = open_shut s p [] is
open_no_more s (q ∷ ps) p shut_is = by q.is_open refl (open_no_more (suc s) ps p shut_is)
  where
    by : (b : Bool) → q.is_open ≡ b → open_from (suc s) (ps ++ p ∷ []) ≡ open_from (suc s) ps → open_from s (q ∷ (ps ++ p ∷ [])) ≡ open_from s (q ∷ ps)
    by true is same = open_up s q (ps ++ p ∷ []) is ∙ ap (λ (l : List ℕ). s ∷ l) same ∙ sym (open_up s q ps is)
    by false is same = open_shut s q (ps ++ p ∷ []) is ∙ same ∙ sym (open_shut s q ps is)

-- ---- the newest of the first `k`

counted_up : (ps : List ConnectionSlot) (k : ℕ) (p : ConnectionSlot) → slice_get ps k ≡ Some p → p.is_open ≡ true
    → length (open_from 1 (take (suc k) ps)) ≡ suc (length (open_from 1 (take k ps)))
counted_up ps k p at up =
    let longer = length-append (open_from 1 (take k ps)) ((1 + length (take k ps)) ∷ []) in
    let one : length (open_from 1 (take k ps) ++ (1 + length (take k ps)) ∷ []) ≡ suc (length (open_from 1 (take k ps))) = omega (arith, longer) in
    ap (λ (l : List ConnectionSlot). length (open_from 1 l)) (take_next ps k p at) ∙ ap length (open_more 1 (take k ps) p up) ∙ one

counted_shut : (ps : List ConnectionSlot) (k : ℕ) (p : ConnectionSlot) → slice_get ps k ≡ Some p → p.is_open ≡ false
    → length (open_from 1 (take (suc k) ps)) ≡ length (open_from 1 (take k ps))
counted_shut ps k p at is = ap (λ (l : List ConnectionSlot). length (open_from 1 l)) (take_next ps k p at) ∙ ap length (open_no_more 1 (take k ps) p is)

-- it is open, and all after it are closed
pub record IsNewest (ps : List ConnectionSlot) (k m : ℕ) : Type 0 where
  pub i : ℕ
  pub place : ConnectionSlot
  pub found : slice_get ps i ≡ Some place
  pub up : place.is_open ≡ true
  pub low : i < k
  pub before : length (open_from 1 (take i ps)) ≡ m
  pub after : (j : ℕ) (p : ConnectionSlot) → i < j → j < k → slice_get ps j ≡ Some p → p.is_open ≡ false

same_place : (ps : List ConnectionSlot) (j k : ℕ) (p q : ConnectionSlot) → j ≡ k → slice_get ps k ≡ Some p → slice_get ps j ≡ Some q → p.is_open ≡ false → q.is_open ≡ false
same_place ps j k p q same at e is = ap (λ (z : ConnectionSlot). z.is_open) (same_Some q p (sym e ∙ ap (slice_get ps) same ∙ at)) ∙ is

one_more_shut : (ps : List ConnectionSlot) (k : ℕ) (p : ConnectionSlot) (r : ℕ) → slice_get ps k ≡ Some p → p.is_open ≡ false
    → ((j : ℕ) (q : ConnectionSlot) → r < j → j < k → slice_get ps j ≡ Some q → q.is_open ≡ false) → (j : ℕ) (q : ConnectionSlot) → r < j → j < suc k → slice_get ps j ≡ Some q → q.is_open ≡ false
one_more_shut ps k p r at is before j q a b e = by (same_or_other j k)
  where
    by : (j ≡ k) ⊎ (j ≡ k → ⊥) → q.is_open ≡ false
    by (inl equal) = same_place ps j k p q equal at e is
    by (inr other) = before j q a (omega (arith, b, other)) e

pub newest : (ps : List ConnectionSlot) (k m : ℕ) → k ≤ length ps → length (open_from 1 (take k ps)) ≡ suc m → IsNewest ps k m
newest ps zero m within many = absurd (omega (arith, many))
newest ps (suc k) m within many = by at_k.0 at_k.1 at_k.0.is_open refl (newest ps k m)
  where
    at_k : (x : ConnectionSlot) × (slice_get ps k ≡ Some x)
    at_k = there ps k (omega (arith, within))

    by : (p : ConnectionSlot) → slice_get ps k ≡ Some p → (b : Bool) → p.is_open ≡ b → (k ≤ length ps → length (open_from 1 (take k ps)) ≡ suc m → IsNewest ps k m) → IsNewest ps (suc k) m
    by p at true is later =
        let one = counted_up ps k p at is in
        record {
          i = k;
          place = p;
          found = at;
          up = is;
          low = omega arith;
          before = omega (arith, many, one);
          after = λ j q a b e. absurd (omega (arith, a, b));
        }
    by p at false is later =
        let r = later (omega (arith, within)) (sym (counted_shut ps k p at is) ∙ many) in
        let low = r.low in
        record {
          i = r.i;
          place = r.place;
          found = r.found;
          up = r.up;
          low = omega (arith, low);
          before = r.before;
          after = one_more_shut ps k p r.i at is r.after;
        }

-- if there is none, all are closed
pub none_open : (ps : List ConnectionSlot) (k : ℕ) → k ≤ length ps → length (open_from 1 (take k ps)) ≡ 0 → (j : ℕ) (q : ConnectionSlot) → j < k → slice_get ps j ≡ Some q → q.is_open ≡ false
none_open ps zero within none j q low e = absurd (omega (arith, low))
none_open ps (suc k) within none j q low e = by at_k.0 at_k.1 at_k.0.is_open refl (same_or_other j k) (none_open ps k)
  where
    at_k : (x : ConnectionSlot) × (slice_get ps k ≡ Some x)
    at_k = there ps k (omega (arith, within))

    by : (p : ConnectionSlot) → slice_get ps k ≡ Some p → (b : Bool) → p.is_open ≡ b → (j ≡ k) ⊎ (j ≡ k → ⊥)
        → (k ≤ length ps → length (open_from 1 (take k ps)) ≡ 0 → (i : ℕ) (x : ConnectionSlot) → i < k → slice_get ps i ≡ Some x → x.is_open ≡ false) → q.is_open ≡ false
    by p at true is where_it_is later = absurd (let one = counted_up ps k p at is in omega (arith, none, one))
    by p at false is (inl equal) later = same_place ps j k p q equal at e is
    by p at false is (inr other) later = later (omega (arith, within)) (sym (counted_shut ps k p at is) ∙ none) j q (omega (arith, low, other)) e
