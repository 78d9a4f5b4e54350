-- Taking.antt: a sealed list has all that a node applied that may take it.
use Rattle.std.proofs.Common.{◌≡◌, ℕ, ◌+◌, ◌<◌, ◌≤◌, ◌⊎◌, inl, inr, List, [], ◌∷◌, length, take, Some, refl, ap, sym, ◌∙◌, subst, arith}
use Rattle.std.proofs.lemmas.Bool.{cases_lt}
use Rattle.agreement.specs.whole_logs.Replica.{ReplicaState}
use Rattle.agreement.specs.World.{GroupWorld}
use Rattle.lists.specs.Lists.{In, IsPrefixOf}
use Rattle.lists.specs.Lists.In.{here, there}
use Rattle.agreement.specs.Inside.Ballots.{Given, Line, History, IsChosenIn, Sealed}
use Rattle.agreement.specs.Inside.BallotsStand.{IsChain, AreBallots, BallotListsStand, IsPlaced, Applied}
use Rattle.agreement.specs.Inside.BallotsStand.Applied.{nothing, in_ballot}
use Rattle.lists.proofs.Prefixes.{prefix_then}
use Rattle.agreement.proofs.Frame.Bases.{sealed_bounds, before_base, base_is, chosen_told}

-- older ballots are lower
pub chain_falls : {C : Type 0} (h : History C) (b : ℕ) (older : List ℕ) → IsChain h (b ∷ older) → (x : ℕ) → In x older → x < b
chain_falls h b [] chain x i = elim i [ ]
chain_falls h b (p ∷ older) chain x here = chain.0.4
chain_falls h b (p ∷ older) chain x (there i) =
    let a = chain_falls h p older chain.1 x i in let c = chain.0.4 in omega (arith, a, c)

-- what is chosen in an activated ballot begins the base of each higher one
higher_base : {S C O : Type 0} (w : GroupWorld S C O) (h : History C) → BallotListsStand w h → (c d k : ℕ) (b : ℕ) (older : List ℕ) →
    IsChain h (b ∷ older) → ((x : ℕ) → In x (b ∷ older) → In x h.activated) → In c (b ∷ older) →
    In d (b ∷ older) → c < d → IsChosenIn w h c k → (lc ld : Line C) → h.line c ≡ Some lc → h.line d ≡ Some ld →
    IsPrefixOf (take k lc.list) ld.base
higher_base w h lines c d k b older chain active here here less chosen lc ld e f = absurd (omega (arith, less))
higher_base w h lines c d k b older chain active (there i) here less chosen lc ld e f =
    before_base w h lines b older chain active c k i chosen lc ld e f
higher_base w h lines c d k b older chain active here (there j) less chosen lc ld e f =
    absurd (let x = chain_falls h b older chain d j in omega (arith, less, x))
higher_base w h lines c d k b [] chain active (there i) (there j) less chosen lc ld e f = elim i [ ]
higher_base w h lines c d k b (p ∷ older) chain active (there i) (there j) less chosen lc ld e f =
    higher_base w h lines c d k p older chain.1 (λ x y. active x (there y)) i j less chosen lc ld e f

pub activated_base : {S C O : Type 0} (w : GroupWorld S C O) (h : History C) → AreBallots h → BallotListsStand w h → (c d k : ℕ) →
    In c h.activated → In d h.activated → c < d → IsChosenIn w h c k → (lc ld : Line C) → h.line c ≡ Some lc →
    h.line d ≡ Some ld → IsPrefixOf (take k lc.list) ld.base
activated_base {S = S} {C = C} w h ballots lines c d k i j less chosen lc ld e f = by_list h.activated refl ballots.chain
  where
    by_list : (bs : List ℕ) → h.activated ≡ bs → IsChain h bs → IsPrefixOf (take k lc.list) ld.base
    by_list [] same chain = absurd chain
    by_list (b ∷ older) same chain =
        higher_base w h lines c d k b older chain (λ x y. subst (λ bs. In x bs) (sym same) y)
        (subst (λ bs. In c bs) same i) (subst (λ bs. In d bs) same j) less chosen lc ld e f

-- a member that has not taken the ballot's list yet loses nothing that it applied
pub may_take : {S C O : Type 0} (w : GroupWorld S C O) (h : History C) → AreBallots h → BallotListsStand w h →
    (n : ℕ) (r : ReplicaState S C) → IsPlaced w h n r → Applied w h r →
    (b : ℕ) (g : Given) → h.given b ≡ Some g → 0 < g.previous → In (n + 1) g.members → r.held_in < b → r.joined ≤ b →
    (xs : List C) → Sealed w h g.previous xs → IsPrefixOf (take r.committed r.log) xs
may_take {S = S} {C = C} {O = O} w h ballots lines n r placed (nothing e) b g given later member below joined xs s =
    subst (λ k. IsPrefixOf (take k r.log) xs) (sym e) (record { rest = xs; is = refl })
may_take {S = S} {C = C} {O = O} w h ballots lines n r placed (in_ballot c k l active low lined chosen front) b g given later member below joined xs s =
    by_order (cases_lt c b)
  where
    previous : In g.previous h.activated × (g.previous < b)
    previous = ballots.previous b g given later

    -- the ballot is the earlier one, or the earlier one begins with what is chosen there
    by_age : (c < g.previous) ⊎ (g.previous ≤ c) → c ≤ g.previous → IsPrefixOf (take r.committed r.log) xs
    by_age (inl older) at_most =
        let t = lines.told g.previous (ballots.previous b g given later).0 in
        prefix_then front
        (prefix_then
        (activated_base w h ballots lines c g.previous k active (ballots.previous b g given later).0 older chosen l t.0 lined t.1)
        (subst (λ (us : List C). IsPrefixOf us xs) (base_is t.0 (lines.prefix g.previous t.0 t.1))
        (sealed_bounds w h g.previous (length t.0.base) xs t.0 t.1 s t.2)))
    by_age (inr no_older) at_most =
        let same : g.previous ≡ c = omega (arith, no_older, at_most) in
        prefix_then front
        (sealed_bounds w h c k xs l lined (subst (λ a. Sealed w h a xs) same s) chosen)

    by_order : (c < b) ⊎ (b ≤ c) → IsPrefixOf (take r.committed r.log) xs
    by_order (inl lower) =
        by_age (cases_lt c g.previous) (ballots.gap b g given later c active lower)
    by_order (inr no_lower) =
        let same : c ≡ b = omega (arith, no_lower, low, joined) in
        let t = lines.told c active in
        let told = chosen_told w h c (length t.0.base) g (n + 1) t.2 (ap h.given same ∙ given) member in
        let up = placed.told c (length t.0.base) told in
        absurd (omega (arith, up, same, below))
