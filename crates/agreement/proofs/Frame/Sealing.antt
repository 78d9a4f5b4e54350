-- Sealing.antt: a node that joins a ballot seals what it acknowledged before.
use Rattle.std.proofs.Common.{◌≡◌, ℕ, ◌+◌, ◌<◌, ◌≤◌, ◌⊎◌, inl, inr, List, length, Some, ap, sym, ◌∙◌, subst, arith}
use Rattle.std.specs.Prelude.{slice_get}
use Rattle.std.proofs.lemmas.Bool.{cases_lt}
use Rattle.agreement.specs.whole_logs.Replica.{ReplicaState}
use Rattle.agreement.specs.World.{GroupWorld}
use Rattle.lists.specs.Lists.{In, IsPrefixOf}
use Rattle.agreement.specs.Inside.MessageMeaning.{IsOffered}
use Rattle.agreement.specs.Inside.Ballots.{Given, Line, History, Acknowledged, IsChosenIn, Sealed}
use Rattle.agreement.specs.Inside.BallotsStand.{AreBallots, BallotListsStand, IsPlaced}
use Rattle.lists.proofs.Prefixes.{prefix_then, prefix_take, take_prefix}
use Rattle.agreement.proofs.Frame.Bases.{chosen_told, sealed_wider}

-- whoever joined a ballot as a member of the earlier one has a log that seals the earlier one
pub joined_seals : {S C O : Type 0} (w : GroupWorld S C O) (h : History C) → AreBallots h → BallotListsStand w h →
    (n : ℕ) (r : ReplicaState S C) → slice_get w.nodes n ≡ Some r → IsPlaced w h n r →
    (b : ℕ) (g a : Given) → h.given b ≡ Some g → 0 < g.previous → h.given g.previous ≡ Some a →
    In (n + 1) a.members → r.joined ≡ b → Sealed w h g.previous r.log
joined_seals {S = S} {C = C} {O = O} w h ballots lines n r stands placed b g a given later given_a member joined =
    by_held (cases_lt g.previous r.held_in)
  where
    before : In g.previous h.activated × (g.previous < b)
    before = ballots.previous b g given later

    told : (l : Line C) × (h.line g.previous ≡ Some l) × IsChosenIn w h g.previous (length l.base)
    told = lines.told g.previous (ballots.previous b g given later).0

    at_least : g.previous ≤ r.held_in
    at_least =
        let t = lines.told g.previous (ballots.previous b g given later).0 in
        placed.told g.previous (length t.0.base) (chosen_told w h g.previous (length t.0.base) a (n + 1) t.2 given_a member)

    own : g.previous ≡ r.held_in →
        (q : Given) × (h.given r.held_in ≡ Some q) × ((l : Line C) × (h.line r.held_in ≡ Some l)
        × IsPrefixOf l.base r.log × IsPrefixOf r.log l.list) → Sealed w h g.previous r.log
    own e (q, given_q, (l, lined, base, list)) =
        record {
          node = n;
          ballot = a;
          line = l;
          replica = r;
          given = given_a;
          member = member;
          lined = ap h.line e ∙ lined;
          stands = stands;
          gone = (let x = (ballots.previous b g given later).1 in omega (arith, x, joined));
          covers = λ k t.
              let long : k ≤ length r.log = placed.acknowledged_here k (subst (λ x. Acknowledged w h (n + 1) x k) e t) in
              subst (λ (us : List C). IsPrefixOf us r.log) (sym (take_prefix k list long)) (prefix_take k r.log);
        }

    put_out : g.previous < r.held_in → r.held_in < b →
        (q : Given) × (h.given r.held_in ≡ Some q) × ((l : Line C) × (h.line r.held_in ≡ Some l)
        × IsPrefixOf l.base r.log × IsPrefixOf r.log l.list) → Sealed w h g.previous r.log
    put_out above below (q, given_q, (l, lined, base, list)) = by_first (ballots.first r.held_in q given_q)
      where
        sealed_there : 0 < q.previous → Sealed w h g.previous r.log
        sealed_there later_q =
            let x = ballots.previous r.held_in q given_q later_q in
            let y = ballots.gap b g given later q.previous x.0 (let z = x.1 in omega (arith, z, below)) in
            let z = ballots.gap r.held_in q given_q later_q g.previous (ballots.previous b g given later).0 above in
            let same : q.previous ≡ g.previous = omega (arith, y, z) in
            subst (λ a. Sealed w h a r.log) same
            (sealed_wider w h q.previous l.base r.log (lines.sealed r.held_in q l given_q later_q lined) base)

        by_first : (r.held_in ≡ 1) ⊎ (0 < q.previous) → Sealed w h g.previous r.log
        by_first (inl one) = absurd (omega (arith, one, above, later))
        by_first (inr later_q) = sealed_there later_q

    by_held : (g.previous < r.held_in) ⊎ (r.held_in ≤ g.previous) → Sealed w h g.previous r.log
    by_held (inr low) =
        let same : g.previous ≡ r.held_in = (let x = at_least in omega (arith, x, low)) in
        own same (placed.between (omega (arith, same, later)))
    by_held (inl above) = by_ballot above (cases_lt r.held_in b) (placed.between (omega (arith, above)))
      where
        by_ballot : g.previous < r.held_in → (r.held_in < b) ⊎ (b ≤ r.held_in) →
            (q : Given) × (h.given r.held_in ≡ Some q) × ((l : Line C) × (h.line r.held_in ≡ Some l)
            × IsPrefixOf l.base r.log × IsPrefixOf r.log l.list) → Sealed w h g.previous r.log
        by_ballot above (inl below) x = put_out above below x
        by_ballot above (inr high) (q, given_q, (l, lined, base, list)) =
            let same : r.held_in ≡ b = (let x = placed.order in omega (arith, x, high, joined)) in
            sealed_wider w h g.previous l.base r.log
            (lines.sealed b g l given later (ap h.line (sym same) ∙ lined)) base

-- and its log is one that may be sent to the new primary
pub joined_offers : {S C O : Type 0} (w : GroupWorld S C O) (h : History C) → AreBallots h → BallotListsStand w h →
    (n : ℕ) (r : ReplicaState S C) → IsPlaced w h n r →
    (b : ℕ) (g a : Given) → h.given b ≡ Some g → 0 < g.previous → h.given g.previous ≡ Some a →
    In (n + 1) a.members → r.joined ≡ b → IsOffered h b g r.log
joined_offers {S = S} {C = C} {O = O} w h ballots lines n r placed b g a given later given_a member joined =
    by_held (cases_lt g.previous r.held_in) (placed.between (let x = at_least in omega (arith, x, later)))
  where
    at_least : g.previous ≤ r.held_in
    at_least =
        let t = lines.told g.previous (ballots.previous b g given later).0 in
        placed.told g.previous (length t.0.base) (chosen_told w h g.previous (length t.0.base) a (n + 1) t.2 given_a member)

    put_out : g.previous < r.held_in → r.held_in < b → (q : Given) → h.given r.held_in ≡ Some q → (l : Line C) →
        h.line r.held_in ≡ Some l → IsPrefixOf r.log l.list → 0 < q.previous → IsOffered h b g r.log
    put_out above below q given_q l lined list later_q =
        let x = ballots.previous r.held_in q given_q later_q in
        let y = ballots.gap b g given later q.previous x.0 (let z = x.1 in omega (arith, z, below)) in
        let z = ballots.gap r.held_in q given_q later_q g.previous (ballots.previous b g given later).0 above in
        let same : q.previous ≡ g.previous = omega (arith, y, z) in
        let p = lines.base_in r.held_in q l given_q later_q lined in
        by_still p.0 (ap h.line (sym same) ∙ p.1) p.2 (lines.still r.held_in l lined)
      where
        by_still : (p : Line C) → h.line g.previous ≡ Some p → IsPrefixOf l.base p.list →
            In r.held_in h.activated ⊎ (l.list ≡ l.base) → IsOffered h b g r.log
        by_still p e front (inl active) =
            absurd (let z = ballots.gap b g given later r.held_in active below in omega (arith, z, above))
        by_still p e front (inr same) =
            inl (p, e, prefix_then (subst (λ (us : List C). IsPrefixOf r.log us) same list) front)

    by_held : (g.previous < r.held_in) ⊎ (r.held_in ≤ g.previous) →
        (q : Given) × (h.given r.held_in ≡ Some q) × ((l : Line C) × (h.line r.held_in ≡ Some l)
        × IsPrefixOf l.base r.log × IsPrefixOf r.log l.list) → IsOffered h b g r.log
    by_held (inr low) (q, given_q, (l, lined, base, list)) =
        let same : g.previous ≡ r.held_in = (let x = at_least in omega (arith, x, low)) in
        inl (l, ap h.line same ∙ lined, list)
    by_held (inl above) (q, given_q, (l, lined, base, list)) = by_ballot (cases_lt r.held_in b) (ballots.first r.held_in q given_q)
      where
        by_ballot : (r.held_in < b) ⊎ (b ≤ r.held_in) → (r.held_in ≡ 1) ⊎ (0 < q.previous) → IsOffered h b g r.log
        by_ballot below (inl one) = absurd (omega (arith, one, above, later))
        by_ballot (inl below) (inr later_q) = put_out above below q given_q l lined list later_q
        by_ballot (inr high) (inr later_q) =
            let same : r.held_in ≡ b = (let x = placed.order in omega (arith, x, high, joined)) in
            inr (l, ap h.line (sym same) ∙ lined, base, list)
