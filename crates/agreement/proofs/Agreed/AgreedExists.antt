-- AgreedExists.antt: a sound world has an agreed list: the front of the newest ballot's list that
-- all its members acknowledged.
use Rattle.std.proofs.Common.{◌≡◌, ℕ, ◌<◌, ◌≤◌, ◌⊎◌, inl, inr, List, [], ◌∷◌, length, take, Some, refl, ap, sym, ◌∙◌, subst, arith}
use Rattle.std.proofs.lemmas.Bool.{cases_lt}
use Rattle.std.proofs.lemmas.List.{length-take-le}
use Rattle.machine.specs.Machine.{Rules}
use Rattle.agreement.specs.World.{GroupWorld}
use Rattle.lists.specs.Lists.{In, IsPrefixOf}
use Rattle.lists.specs.Lists.In.{here, there}
use Rattle.agreement.specs.Inside.Chosen.{IsAgreedIn}
use Rattle.agreement.specs.Inside.Ballots.{Given, Line, History, Acknowledged, IsChosenIn}
use Rattle.agreement.specs.Inside.BallotsStand.{IsChain}
use Rattle.agreement.specs.MasterState.{MasterState}
use Rattle.agreement.specs.Inside.Masters.{IsMaster}
use Rattle.agreement.specs.Inside.Sound.{IsSoundWorld}
use Rattle.agreement.specs.Inside.AcknowledgedLengths.{acknowledged_length, least_of, chosen_length}
use Rattle.lists.proofs.Prefixes.{prefix_then, prefix_take, take_prefix}
use Rattle.agreement.proofs.Frame.Apart.{chosen_within}
use Rattle.agreement.proofs.Masters.Assigned.{at_most_newest}
use Rattle.agreement.proofs.Frame.Framing.{within_of}
use Rattle.agreement.proofs.Frame.SaysLater.{told_less}
use Rattle.agreement.proofs.Agreed.MaxAcknowledged.{told_whole, told_at_most}
use Rattle.agreement.proofs.Frame.Bases.{chosen_told, base_is, one_line}
use Rattle.agreement.proofs.Frame.Taking.{activated_base}

-- the least is at most the bound
pub least_top : (top : ℕ) (f : ℕ → ℕ) (ms : List ℕ) → least_of top f ms ≤ top
least_top top f [] = omega arith
least_top top f (m ∷ ms) = let z = least_top top f ms in omega (arith, z)

-- and at most each member's length
pub least_each : (top : ℕ) (f : ℕ → ℕ) (ms : List ℕ) (m : ℕ) → In m ms → least_of top f ms ≤ f m
least_each top f [] m i = elim i [ ]
least_each top f (x ∷ ms) m here = omega arith
least_each top f (x ∷ ms) m (there i) = let z = least_each top f ms m i in omega (arith, z)

-- and at least what is at most all of these
pub least_most : (top : ℕ) (f : ℕ → ℕ) (ms : List ℕ) (j : ℕ) → j ≤ top → ((m : ℕ) → In m ms → j ≤ f m) → j ≤ least_of top f ms
least_most top f [] j low all = low
least_most top f (m ∷ ms) j low all =
    let z = least_most top f ms j low (λ x i. all x (there i)) in let y = all m here in omega (arith, z, y)

-- of two fronts of a list the shorter begins the longer
front_of : {X : Type 0} (j k : ℕ) (xs : List X) → j ≤ k → k ≤ length xs → IsPrefixOf (take j xs) (take k xs)
front_of {X = X} j k xs less within =
    let e = length-take-le k xs within in
    subst (λ (us : List X). IsPrefixOf us (take k xs)) (sym (take_prefix j (prefix_take k xs) (omega (arith, e, less))))
    (prefix_take j (take k xs))

-- in an activated ballot the members' least acknowledged length is chosen
pub chosen_least : {S C O : Type 0} (rules : Rules S C O) (w : GroupWorld S C O) (h : History C) (b : ℕ) (g : Given) (l : Line C) →
    IsSoundWorld rules w h → In b h.activated → h.given b ≡ Some g → h.line b ≡ Some l → IsChosenIn w h b (chosen_length w.sent b g l)
chosen_least {S = S} {C = C} rules w h b g l s active given lined = (
  g,
  given,
  λ m i. told_less w h m b (acknowledged_length w.sent b g l m) (chosen_length w.sent b g l)
      (least_each (length l.list) (acknowledged_length w.sent b g l) g.members m i)
      (told_whole w h m b g l given lined (some_told m i)),
)
  where
    some_told : (m : ℕ) → In m g.members → Acknowledged w h m b 0
    some_told m i =
        let t = s.lines.told b active in
        told_less w h m b (length t.0.base) 0 (omega arith) (chosen_told w h b (length t.0.base) g m t.2 given i)

-- and nothing longer is
pub chosen_at_most : {S C O : Type 0} (rules : Rules S C O) (w : GroupWorld S C O) (h : History C) (b j : ℕ) (g : Given) (l : Line C) →
    IsSoundWorld rules w h → h.given b ≡ Some g → h.line b ≡ Some l → IsChosenIn w h b j → j ≤ chosen_length w.sent b g l
chosen_at_most rules w h b j g l s given lined chosen =
    least_most (length l.list) (acknowledged_length w.sent b g l) g.members j
    (chosen_within w h s.ballots (within_of rules w h s) b j l lined chosen)
    (λ m i. told_at_most rules w h m b j g l s given lined (chosen_told w h b j g m chosen given i))

-- that front of the newest ballot's list is the agreed list
pub newest_agreed : {S C O : Type 0} (rules : Rules S C O) (w : GroupWorld S C O) (h : History C) (b : ℕ) (older : List ℕ) (g : Given) (l : Line C) →
    IsSoundWorld rules w h → h.activated ≡ b ∷ older → h.given b ≡ Some g → h.line b ≡ Some l →
    IsAgreedIn w h (take (chosen_length w.sent b g l) l.list)
newest_agreed {S = S} {C = C} rules w h b older g l s newest given lined =
    record {
      chosen = inr (record {
        ballot = b;
        places = chosen_length w.sent b g l;
        line = l;
        activated = active;
        lined = lined;
        chosen = chosen_least rules w h b g l s active given lined;
        is = refl;
      });
      longest = λ ys c. subst (λ (us : List C). IsPrefixOf us (take (chosen_length w.sent b g l) l.list)) (sym c.is) (by_order c.ballot c.places c.line c.activated c.lined c.chosen (cases_lt c.ballot b));
    }
  where
    active : In b h.activated
    active = subst (λ bs. In b bs) (sym newest) here

    top : chosen_length w.sent b g l ≤ length l.list
    top = least_top (length l.list) (acknowledged_length w.sent b g l) g.members

    by_order : (c j : ℕ) (y : Line C) → In c h.activated → h.line c ≡ Some y → IsChosenIn w h c j → (c < b) ⊎ (b ≤ c) →
        IsPrefixOf (take j y.list) (take (chosen_length w.sent b g l) l.list)
    by_order c j y i e chosen (inl less) =
        let t = s.lines.told b active in
        let one : t.0 ≡ l = one_line (h.line b) t.0 l t.1 lined in
        let base : IsChosenIn w h b (length l.base) = subst (λ (x : Line C). IsChosenIn w h b (length x.base)) one t.2 in
        prefix_then (activated_base w h s.ballots s.lines c b j i active less chosen y l e lined)
        (subst (λ (us : List C). IsPrefixOf us (take (chosen_length w.sent b g l) l.list)) (base_is l (s.lines.prefix b l lined))
        (front_of (length l.base) (chosen_length w.sent b g l) l.list (chosen_at_most rules w h b (length l.base) g l s given lined base) top))
    by_order c j y i e chosen (inr high) =
        let low = at_most_newest h b older (subst (λ bs. IsChain h bs) newest s.ballots.chain) c (subst (λ bs. In c bs) newest i) in
        let same : c ≡ b = omega (arith, low, high) in
        let one : y ≡ l = one_line (h.line b) y l (ap h.line (sym same) ∙ e) lined in
        let k : j ≤ chosen_length w.sent b g l = chosen_at_most rules w h b j g l s given lined (subst (λ x. IsChosenIn w h x j) same chosen) in
        subst (λ (x : Line C). IsPrefixOf (take j x.list) (take (chosen_length w.sent b g l) l.list)) (sym one)
        (front_of j (chosen_length w.sent b g l) l.list k top)

-- there is an agreed list
pub agreed_exists : {S C O : Type 0} (rules : Rules S C O) (m : MasterState) (w : GroupWorld S C O) (h : History C) → IsSoundWorld rules w h → IsMaster m h →
    (xs : List C) × IsAgreedIn w h xs
agreed_exists {S = S} {C = C} rules m w h s k =
    let t = s.lines.told m.active (subst (λ bs. In m.active bs) (sym k.newest) here) in
    let g = k.active_members in
    (take (chosen_length w.sent m.active g.0 t.0) t.0.list, newest_agreed rules w h m.active k.older g.0 t.0 s k.newest g.1 t.1)
