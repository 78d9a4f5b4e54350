-- AppliedAgreed.antt: what is applied begins the agreed list, and each member of the active ballot holds it.
use Rattle.std.proofs.Common.{◌≡◌, ℕ, ◌+◌, ◌<◌, ◌≤◌, ◌⊎◌, inl, inr, List, [], ◌∷◌, length, take, Some, refl, ap, sym, ◌∙◌, subst, arith}
use Rattle.std.specs.Prelude.{slice_get}
use Rattle.std.proofs.lemmas.Bool.{cases_lt}
use Rattle.machine.specs.Machine.{Rules}
use Rattle.agreement.specs.whole_logs.Replica.{ReplicaState}
use Rattle.agreement.specs.World.{GroupWorld}
use Rattle.lists.specs.Lists.{In, IsPrefixOf}
use Rattle.lists.specs.Lists.In.{here}
use Rattle.agreement.specs.Inside.Chosen.{ChosenList, IsAgreedIn}
use Rattle.agreement.specs.Inside.Ballots.{Given, Line, History, Acknowledged, Sealed, IsChosenIn}
use Rattle.agreement.specs.Inside.BallotsStand.{IsChain, Applied}
use Rattle.agreement.specs.Inside.BallotsStand.Applied.{nothing, in_ballot}
use Rattle.agreement.specs.Inside.Sound.{IsSoundWorld}
use Rattle.agreement.specs.Inside.SoundNodes.{IsSoundNode}
use Rattle.lists.proofs.Prefixes.{prefix_then, prefix_take, take_prefix}
use Rattle.agreement.proofs.Masters.Assigned.{at_most_newest}
use Rattle.agreement.proofs.Frame.Bases.{chosen_told, sealed_bounds, base_is, one_line}
use Rattle.agreement.proofs.Frame.Taking.{activated_base}

-- a chosen list, by its ballot
pub chosen_list : {S C O : Type 0} (w : GroupWorld S C O) (h : History C) (b k : ℕ) (l : Line C) → In b h.activated → h.line b ≡ Some l →
    IsChosenIn w h b k → ChosenList w h (take k l.list)
chosen_list w h b k l i e c = record { ballot = b; places = k; line = l; activated = i; lined = e; chosen = c; is = refl }

-- what a node applied begins the agreed list
pub applied_agreed : {S C O : Type 0} (w : GroupWorld S C O) (h : History C) (r : ReplicaState S C) (xs : List C) → IsAgreedIn w h xs → Applied w h r →
    IsPrefixOf (take r.committed r.log) xs
applied_agreed w h r xs a (nothing e) = subst (λ k. IsPrefixOf (take k r.log) xs) (sym e) (record { rest = xs; is = refl })
applied_agreed w h r xs a (in_ballot b k l i up e chosen front) =
    prefix_then front (a.longest (take k l.list) (chosen_list w h b k l i e chosen))

-- what is chosen in the newest ballot is held by its members
newest_held : {S C O : Type 0} (rules : Rules S C O) (w : GroupWorld S C O) (h : History C) (b k : ℕ) (older : List ℕ) (g : Given) (l : Line C)
    (n : ℕ) (r : ReplicaState S C) → IsSoundWorld rules w h → h.activated ≡ b ∷ older → h.given b ≡ Some g → In (n + 1) g.members →
    h.line b ≡ Some l → IsChosenIn w h b k → slice_get w.nodes n ≡ Some r → IsPrefixOf (take k l.list) r.log
newest_held {S = S} {C = C} {O = O} rules w h b k older g l n r s newest given member lined chosen stands = by_order (cases_lt b r.held_in)
  where
    t : IsSoundNode w h n r
    t = s.nodes n r stands

    active : In b h.activated
    active = subst (λ bs. In b bs) (sym newest) here

    told : Acknowledged w h (n + 1) b k
    told = chosen_told w h b k g (n + 1) chosen given member

    between : (x : Given) × (h.given r.held_in ≡ Some x) × ((y : Line C) × (h.line r.held_in ≡ Some y)
        × IsPrefixOf y.base r.log × IsPrefixOf r.log y.list)
    between = t.placed.between (let z = t.placed.told b k told in let p = (s.ballots.were_given b active).2 in omega (arith, z, p))

    above : b < r.held_in → (x : Given) → h.given r.held_in ≡ Some x → (y : Line C) → h.line r.held_in ≡ Some y → IsPrefixOf y.base r.log →
        (r.held_in ≡ 1) ⊎ (0 < x.previous) → IsPrefixOf (take k l.list) r.log
    above less x e y f base (inl one) = let p = (s.ballots.were_given b active).2 in absurd (omega (arith, one, less, p))
    above less x e y f base (inr later) =
        let p = s.ballots.previous r.held_in x e later in
        let low = s.ballots.gap r.held_in x e later b active less in
        let high = at_most_newest h b older (subst (λ bs. IsChain h bs) newest s.ballots.chain) x.previous (subst (λ bs. In x.previous bs) newest p.0) in
        let same : x.previous ≡ b = omega (arith, low, high) in
        prefix_then
        (sealed_bounds w h b k y.base l lined (subst (λ c. Sealed w h c y.base) same (s.lines.sealed r.held_in x y e later f)) chosen)
        base

    by_order : (b < r.held_in) ⊎ (r.held_in ≤ b) → IsPrefixOf (take k l.list) r.log
    by_order (inl less) =
        above less between.0 between.1 between.2.0 between.2.1 between.2.2 (s.ballots.first r.held_in between.0 between.1)
    by_order (inr low) =
        let z = t.placed.told b k told in let same : b ≡ r.held_in = omega (arith, z, low) in
        let y = between.2.0 in
        let one : y ≡ l = one_line (h.line r.held_in) y l between.2.1 (ap h.line (sym same) ∙ lined) in
        let long = t.placed.acknowledged_here k (subst (λ c. Acknowledged w h (n + 1) c k) same told) in
        let list : IsPrefixOf r.log l.list = subst (λ (u : Line C). IsPrefixOf r.log u.list) one between.2.3 in
        subst (λ (us : List C). IsPrefixOf us r.log) (sym (take_prefix k list long)) (prefix_take k r.log)

-- the agreed list is held by the members of the newest ballot
pub agreed_held : {S C O : Type 0} (rules : Rules S C O) (w : GroupWorld S C O) (h : History C) (xs : List C) (b : ℕ) (older : List ℕ) (g : Given)
    (n : ℕ) (r : ReplicaState S C) → IsSoundWorld rules w h → (xs ≡ []) ⊎ ChosenList w h xs → h.activated ≡ b ∷ older → h.given b ≡ Some g →
    In (n + 1) g.members → slice_get w.nodes n ≡ Some r → IsPrefixOf xs r.log
agreed_held {S = S} {C = C} rules w h xs b older g n r s (inl none) newest given member stands =
    subst (λ (us : List C). IsPrefixOf us r.log) (sym none) (record { rest = r.log; is = refl })
agreed_held {S = S} {C = C} {O = O} rules w h xs b older g n r s (inr c) newest given member stands =
    subst (λ (us : List C). IsPrefixOf us r.log) (sym c.is) (by_order (cases_lt c.ballot b))
  where
    active : In b h.activated
    active = subst (λ bs. In b bs) (sym newest) here

    by_order : (c.ballot < b) ⊎ (b ≤ c.ballot) → IsPrefixOf (take c.places c.line.list) r.log
    by_order (inl less) =
        let t = s.lines.told b active in
        prefix_then
        (activated_base w h s.ballots s.lines c.ballot b c.places c.activated active less c.chosen c.line t.0 c.lined t.1)
        (subst (λ (us : List C). IsPrefixOf us r.log) (base_is t.0 (s.lines.prefix b t.0 t.1))
        (newest_held rules w h b (length t.0.base) older g t.0 n r s newest given member t.1 t.2 stands))
    by_order (inr high) =
        let low = at_most_newest h b older (subst (λ bs. IsChain h bs) newest s.ballots.chain) c.ballot
        (subst (λ bs. In c.ballot bs) newest c.activated) in
        let same : c.ballot ≡ b = omega (arith, low, high) in
        newest_held rules w h b c.places older g c.line n r s newest given member (ap h.line (sym same) ∙ c.lined)
        (subst (λ x. IsChosenIn w h x c.places) same c.chosen) stands
