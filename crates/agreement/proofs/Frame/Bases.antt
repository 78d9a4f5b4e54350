-- Bases.antt: a ballot has one list, and what is chosen before it lies within its base.
use Rattle.std.proofs.Common.{◌≡◌, ℕ, ◌+◌, List, [], ◌∷◌, length, take, Some, Option, refl, ap, ◌∙◌, subst, arith}
use Rattle.agreement.specs.World.{GroupWorld}
use Rattle.lists.specs.Lists.{In, IsPrefixOf}
use Rattle.lists.specs.Lists.In.{here, there}
use Rattle.agreement.specs.Inside.Ballots.{Given, Line, History, Acknowledged, IsChosenIn, Sealed}
use Rattle.agreement.specs.Inside.BallotsStand.{IsChain, BallotListsStand}
use Rattle.lists.proofs.Prefixes.{prefix_then, take_prefix}

-- there is one list of a ballot
pub one_line : {C : Type 0} (o : Option (Line C)) (l m : Line C) → o ≡ Some l → o ≡ Some m → l ≡ m
one_line o l m e f = cc

-- what is chosen was acknowledged by each member
pub chosen_told : {S C O : Type 0} (w : GroupWorld S C O) (h : History C) (b k : ℕ) (g : Given) (m : ℕ) → IsChosenIn w h b k →
    h.given b ≡ Some g → In m g.members → Acknowledged w h m b k
chosen_told w h b k g m chosen given member =
    chosen.2 m (subst (λ (x : Given). In m x.members) (one_ballot (h.given b) g chosen.0 given chosen.1) member)
  where
    one_ballot : (o : Option Given) (x y : Given) → o ≡ Some x → o ≡ Some y → x ≡ y
    one_ballot o x y e f = cc

-- what is chosen in a ballot begins what is sealed of it
pub sealed_bounds : {S C O : Type 0} (w : GroupWorld S C O) (h : History C) (b k : ℕ) (xs : List C) (l : Line C) →
    h.line b ≡ Some l → Sealed w h b xs → IsChosenIn w h b k → IsPrefixOf (take k l.list) xs
sealed_bounds {S = S} {C = C} w h b k xs l e s chosen =
    subst (λ (m : Line C). IsPrefixOf (take k m.list) xs) (one_line (h.line b) s.line l s.lined e)
    (s.covers k (chosen_told w h b k s.ballot (s.node + 1) chosen s.given s.member))

-- what is sealed stays so of longer lists
pub sealed_wider : {S C O : Type 0} (w : GroupWorld S C O) (h : History C) (b : ℕ) (xs ys : List C) →
    Sealed w h b xs → IsPrefixOf xs ys → Sealed w h b ys
sealed_wider w h b xs ys s p =
    record {
      node = s.node;
      ballot = s.ballot;
      line = s.line;
      replica = s.replica;
      given = s.given;
      member = s.member;
      lined = s.lined;
      stands = s.stands;
      gone = s.gone;
      covers = λ k told. prefix_then (s.covers k told) p;
    }

-- the base of a ballot's list is its front
pub base_is : {C : Type 0} (l : Line C) → IsPrefixOf l.base l.list → take (length l.base) l.list ≡ l.base
base_is l p = take_prefix (length l.base) p (omega arith) ∙ all_of l.base
  where
    all_of : {X : Type 0} (xs : List X) → take (length xs) xs ≡ xs
    all_of [] = refl
    all_of (x ∷ xs) = ap (λ us. x ∷ us) (all_of xs)

-- what is chosen in the activated ballot before one begins the base of that one
next_base : {S C O : Type 0} (w : GroupWorld S C O) (h : History C) → BallotListsStand w h → (b p : ℕ) (older : List ℕ) →
    IsChain h (b ∷ (p ∷ older)) → (k : ℕ) → IsChosenIn w h p k → (lp lb : Line C) → h.line p ≡ Some lp → h.line b ≡ Some lb →
    IsPrefixOf (take k lp.list) lb.base
next_base {S = S} {C = C} {O = O} w h lines b p older chain k chosen lp lb e f =
    let g = chain.0 in
    let s : Sealed w h p lb.base = subst (λ x. Sealed w h x lb.base) g.2
    (lines.sealed b g.0 lb g.1 (let x = g.2 in let y = g.3 in omega (arith, x, y)) f) in
    sealed_bounds w h p k lb.base lp e s chosen

-- what is chosen in an older activated ballot begins the base of each later one
pub before_base : {S C O : Type 0} (w : GroupWorld S C O) (h : History C) → BallotListsStand w h → (b : ℕ) (older : List ℕ) →
    IsChain h (b ∷ older) → ((x : ℕ) → In x (b ∷ older) → In x h.activated) → (c k : ℕ) → In c older →
    IsChosenIn w h c k → (lc lb : Line C) → h.line c ≡ Some lc → h.line b ≡ Some lb →
    IsPrefixOf (take k lc.list) lb.base
before_base w h lines b [] chain active c k i chosen lc lb e f = elim i [ ]
before_base w h lines b (p ∷ older) chain active c k here chosen lc lb e f =
    next_base w h lines b p older chain k chosen lc lb e f
before_base {S = S} {C = C} {O = O} w h lines b (p ∷ older) chain active c k (there i) chosen lc lb e f =
    let told = lines.told p (active p (there here)) in
    let lp = told.0 in
    prefix_then
    (before_base w h lines p older chain.1 (λ x j. active x (there j)) c k i chosen lc lp e told.1)
    (subst (λ (us : List C). IsPrefixOf us lb.base) (base_is lp (lines.prefix p lp told.1))
    (next_base w h lines b p older chain (length lp.base) told.2 lp lb told.1 f))
