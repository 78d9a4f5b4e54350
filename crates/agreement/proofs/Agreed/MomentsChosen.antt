-- MomentsChosen.antt: what is chosen by the moments is so by the history, and the other way round.
use Rattle.std.proofs.Common.{◌≡◌, ℕ, zero, suc, ◌+◌, ◌<◌, ◌≤◌, ◌⊎◌, inl, inr, List, [], ◌∷◌, length, take, Some, refl, ap, sym, ◌∙◌, subst, arith}
use Rattle.machine.specs.Machine.{Rules}
use Rattle.lists.specs.Lists.{In, IsPrefixOf}
use Rattle.lists.proofs.Prefixes.{prefix_then, prefix_take, prefix_length, take_prefix}
use Rattle.ballot_base.specs.declared.config.Config.{Config}
use Rattle.agreement.specs.Inside.Chosen.{ChosenList}
use Rattle.agreement.specs.Inside.Ballots.{Given, Line, Acknowledged}
use Rattle.agreement.specs.Moments.{Moment, HasConfig, WasActive, HasAcknowledged, IsChosen}
use Rattle.agreement.proofs.Machines.Comparing.{front_of_longer}
use Rattle.agreement.proofs.Frame.SaysLater.{told_less}
use Rattle.agreement.proofs.Agreed.MomentsAreKnown.{IsKnown}
use Rattle.agreement.proofs.Frame.Bases.{one_line}
use Rattle.agreement.proofs.Agreed.MomentsTell.{active_known, config_known, told_known}

-- a list that is chosen by the moments is chosen by the history
pub chosen_known : {S C O : Type 0} (rules : Rules S C O) (config : Config) (a : Moment S C O) (moments : List (Moment S C O)) →
    (q : IsKnown rules config a moments) → (b : ℕ) (ys : List C) → WasActive (a ∷ moments) b → IsChosen config (a ∷ moments) b ys →
    ChosenList a.world q.history ys
chosen_known {S = S} {C = C} {O = O} rules config a moments q b ys active (c, has, all) =
    record {
      ballot = b;
      places = length ys;
      line = first.0;
      activated = activated;
      lined = first.1;
      chosen = (g.0, g.1, λ m i. by_number m (g.4 m (subst (λ ms. In m ms) g.2 i)) (subst (λ ms. In m ms) g.2 i));
      is = sym (take_prefix (length ys) first.2 (omega arith) ∙ all_of ys);
    }
  where
    activated : In b q.history.activated
    activated = active_known rules config a moments q b active

    low : 0 < b
    low = (q.serves.sound.ballots.were_given b activated).2

    g : (g : Given) × (q.history.given b ≡ Some g) × (g.members ≡ c.members) × (g.primary ≡ c.primary)
        × ((x : ℕ) → In x c.members → (n : ℕ) × (x ≡ n + 1))
    g = config_known rules config a moments q b c has

    by_node : (n : ℕ) → In (n + 1) c.members →
        (l : Line C) × (q.history.line b ≡ Some l) × IsPrefixOf ys l.list × Acknowledged a.world q.history (n + 1) b (length ys)
    by_node n i =
        let z = all n i in
        let t = told_known rules config a moments q b n z.0 low z.1 in
        (t.0, t.1, prefix_then z.2 t.2, told_less a.world q.history (n + 1) b (length z.0) (length ys) (prefix_length z.2) t.3)

    by_number : (m : ℕ) → (n : ℕ) × (m ≡ n + 1) → In m c.members → Acknowledged a.world q.history m b (length ys)
    by_number m (n, is) i =
        subst (λ x. Acknowledged a.world q.history x b (length ys)) (sym is) (by_node n (subst (λ x. In x c.members) is i)).3

    primary : In c.primary c.members
    primary =
        subst (λ x. In x c.members) g.3 (subst (λ ms. In g.0.primary ms) g.2 (q.serves.sound.ballots.led b g.0 g.1))

    first : (l : Line C) × (q.history.line b ≡ Some l) × IsPrefixOf ys l.list × Acknowledged a.world q.history ((g.4 c.primary primary).0 + 1) b (length ys)
    first = by_node (g.4 c.primary primary).0 (subst (λ x. In x c.members) (g.4 c.primary primary).1 primary)

    all_of : {X : Type 0} (xs : List X) → take (length xs) xs ≡ xs
    all_of [] = refl
    all_of (x ∷ xs) = ap (λ us. x ∷ us) (all_of xs)

-- and the other way round
pub chosen_back : {S C O : Type 0} (rules : Rules S C O) (config : Config) (a : Moment S C O) (moments : List (Moment S C O)) →
    (q : IsKnown rules config a moments) → (xs : List C) → ChosenList a.world q.history xs →
    (xs ≡ []) ⊎ ((b : ℕ) × WasActive (a ∷ moments) b × IsChosen config (a ∷ moments) b xs)
chosen_back {S = S} {C = C} {O = O} rules config a moments q [] c = inl refl
chosen_back {S = S} {C = C} {O = O} rules config a moments q (x ∷ xs) c =
    inr (c.ballot, q.active c.ballot c.activated, (given.0, given.1, λ n i. by_node n i))
  where
    low : 0 < c.ballot
    low = (q.serves.sound.ballots.were_given c.ballot c.activated).2

    given : (k : Config) × HasConfig config (a ∷ moments) c.ballot k × (c.chosen.0.members ≡ k.members) × (c.chosen.0.primary ≡ k.primary)
    given = q.configs c.ballot c.chosen.0 c.chosen.1

    short : length (x ∷ xs) ≤ c.places
    short = let e = ap length c.is in let z = take_at_most c.places c.line.list in omega (arith, e, z)
      where
        take_at_most : {X : Type 0} (k : ℕ) (us : List X) → length (take k us) ≤ k
        take_at_most zero us = omega arith
        take_at_most (suc k) [] = omega arith
        take_at_most (suc k) (u ∷ us) = let z = take_at_most k us in omega (arith, z)

    front : IsPrefixOf (x ∷ xs) c.line.list
    front = subst (λ (us : List C). IsPrefixOf us c.line.list) (sym c.is) (prefix_take c.places c.line.list)

    by_told : (n : ℕ) → (length (x ∷ xs) ≡ 0) ⊎ ((ys : List C) × HasAcknowledged config (a ∷ moments) c.ballot n ys × (length (x ∷ xs) ≤ length ys)) →
        (told : List C) × HasAcknowledged config (a ∷ moments) c.ballot n told × IsPrefixOf (x ∷ xs) told
    by_told n (inl none) = absurd (omega (arith, none))
    by_told n (inr (ys, has, longer)) =
        let t = told_known rules config a moments q c.ballot n ys low has in
        let one = one_line (q.history.line c.ballot) t.0 c.line t.1 c.lined in
        let begins : IsPrefixOf ys c.line.list = subst (λ (u : Line C). IsPrefixOf ys u.list) one t.2 in
        (ys, has, front_of_longer (x ∷ xs) ys c.line.list front begins longer)

    by_node : (n : ℕ) → In (n + 1) given.0.members →
        (told : List C) × HasAcknowledged config (a ∷ moments) c.ballot n told × IsPrefixOf (x ∷ xs) told
    by_node n i =
        by_told n (q.tells n c.ballot (length (x ∷ xs))
        (told_less a.world q.history (n + 1) c.ballot c.places (length (x ∷ xs)) short
        (c.chosen.2 (n + 1) (subst (λ ms. In (n + 1) ms) (sym given.2) i))))
