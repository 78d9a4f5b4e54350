-- Later.antt: what is acknowledged, sealed and chosen stays so in a later world.
use Rattle.std.proofs.Common.{◌≡◌, ℕ, zero, suc, ◌++◌, ◌+◌, ◌≤◌, ◌⊎◌, inl, inr, List, [], ◌∷◌, take, refl, ap, sym, ◌∙◌, subst, arith}
use Rattle.agreement.specs.whole_logs.Replica.{ReplicaState}
use Rattle.agreement.specs.World.{GroupWorld}
use Rattle.lists.specs.Lists.{In, IsPrefixOf}
use Rattle.agreement.specs.Inside.Ballots.{Line, History, Acknowledged, IsChosenIn, Sealed}
use Rattle.agreement.specs.Inside.BallotsStand.{Applied}
use Rattle.agreement.specs.Inside.Extension.{Extends, AcknowledgedIsWithin}
use Rattle.agreement.specs.Inside.BallotsStand.Applied.{nothing, in_ballot}
use Rattle.agreement.specs.Inside.Ballots.Acknowledged.{told_at_opening, told_by_held, told_by_installed, told_as_primary}
use Rattle.lists.proofs.Prefixes.{prefix_then, prefix_length, take_prefix}

-- prefixes of a list and of one that it begins
pub takes : {X : Type 0} (k : ℕ) {xs ys : List X} → IsPrefixOf xs ys → IsPrefixOf (take k xs) (take k ys)
takes {X = X} zero p = record { rest = []; is = refl }
takes {X = X} (suc k) {xs = []} {ys = ys} p = record { rest = take (suc k) ys; is = refl }
takes {X = X} (suc k) {xs = x ∷ xs} {ys = []} p = let e = p.is in cc
takes {X = X} (suc k) {xs = x ∷ xs} {ys = y ∷ ys} p =
    let e = p.is in let a : y ≡ x = cc in let b : ys ≡ xs ++ p.rest = cc in
    let q = takes k {xs = xs} {ys = ys} (record { rest = p.rest; is = b }) in
    record { rest = q.rest; is = ap (λ z. z ∷ take k ys) a ∙ ap (λ us. x ∷ us) q.is }

-- what was acknowledged stays so
pub told_kept : {S C O : Type 0} (w v : GroupWorld S C O) (h i : History C) (m b k : ℕ) → Extends w h v i →
    Acknowledged w h m b k → Acknowledged v i m b k
told_kept w v h i m b k x (told_at_opening g one none given member) = told_at_opening g one none (x.given 1 g given) member
told_kept w v h i m b k x (told_by_held receiver held j below) = told_by_held receiver held (x.sent _ j) below
told_kept w v h i m b k x (told_by_installed receiver held j below) = told_by_installed receiver held (x.sent _ j) below
told_kept w v h i m b k x (told_as_primary g l given primary lined below) =
    let y = x.lines b l lined in
    let z = prefix_length y.3 in
    told_as_primary g y.0 (x.given b g given) primary y.1 (omega (arith, below, z))

-- what is sealed stays sealed
pub sealed_kept : {S C O : Type 0} (w v : GroupWorld S C O) (h i : History C) (b : ℕ) (xs : List C) → Extends w h v i →
    AcknowledgedIsWithin w h → Sealed w h b xs → Sealed v i b xs
sealed_kept {S = S} {C = C} {O = O} w v h i b xs x within s =
    let y = x.nodes s.node s.replica s.stands in
    let z = x.lines b s.line s.lined in
    record {
      node = s.node;
      ballot = s.ballot;
      line = z.0;
      replica = y.0;
      given = x.given b s.ballot s.given;
      member = s.member;
      lined = z.1;
      stands = y.1;
      gone = (let a = s.gone in let c = y.2 in omega (arith, a, c));
      covers = λ k told. by_telling k z.0 z.3 (x.told s.node b k s.replica s.stands told);
    }
  where
    by_telling : (k : ℕ) (l : Line C) → IsPrefixOf s.line.list l.list →
        Acknowledged w h (s.node + 1) b k ⊎ (s.replica.joined ≤ b) → IsPrefixOf (take k l.list) xs
    by_telling k l p (inl told) =
        subst (λ (us : List C). IsPrefixOf us xs) (sym (take_prefix k p (within (s.node + 1) b k s.line s.lined told)))
        (s.covers k told)
    by_telling k l p (inr low) = absurd (let a = s.gone in omega (arith, a, low))

-- what is chosen stays so
pub chosen_kept : {S C O : Type 0} (w v : GroupWorld S C O) (h i : History C) (b k : ℕ) → Extends w h v i → IsChosenIn w h b k →
    IsChosenIn v i b k
chosen_kept w v h i b k x (g, given, told) = (g, x.given b g given, λ m j. told_kept w v h i m b k x (told m j))

-- what a node applied stays chosen
pub applied_kept : {S C O : Type 0} (w v : GroupWorld S C O) (h i : History C) (r : ReplicaState S C) → Extends w h v i →
    ((b : ℕ) → In b h.activated → In b i.activated) → AcknowledgedIsWithin w h → Applied w h r → Applied v i r
applied_kept w v h i r x active within (nothing e) = nothing e
applied_kept {S = S} {C = C} w v h i r x active within (in_ballot b k l j low lined chosen front) =
    let z = x.lines b l lined in
    let member = chosen.2 in
    in_ballot b k z.0 (active b j) low z.1 (chosen_kept w v h i b k x chosen)
    (prefix_then front (grown z.0 z.3))
  where
    grown : (y : Line C) → IsPrefixOf l.list y.list → IsPrefixOf (take k l.list) (take k y.list)
    grown y p = takes k p
