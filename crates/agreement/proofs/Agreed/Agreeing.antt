-- Agreeing.antt: the nodes of a sound world agree, and what is agreed only grows.
use Rattle.std.proofs.Common.{◌≡◌, ℕ, ◌+◌, ◌<◌, ◌≤◌, ◌⊎◌, inl, inr, List, [], length, take, Some, refl, ap, sym, ◌∙◌, subst, arith}
use Rattle.std.specs.Prelude.{slice_get}
use Rattle.std.proofs.lemmas.Bool.{cases_lt}
use Rattle.std.proofs.lemmas.List.{length-take-le}
use Rattle.machine.specs.Machine.{Rules}
use Rattle.agreement.specs.whole_logs.Replica.{ReplicaState}
use Rattle.agreement.specs.World.{GroupWorld}
use Rattle.lists.specs.Lists.{In, IsPrefixOf}
use Rattle.agreement.specs.Inside.Chosen.{ChosenList, IsAgreedIn}
use Rattle.agreement.specs.Agreement.{Agrees}
use Rattle.agreement.specs.LeftOutputs.{LeftInOrder, Segment}
use Rattle.agreement.specs.Moments.{Moment, WasActive}
use Rattle.agreement.specs.Inside.Ballots.{Line, History, IsChosenIn}
use Rattle.agreement.specs.Inside.Keeps.{HistoryGoesOn}
use Rattle.agreement.specs.MasterState.{MasterState}
use Rattle.agreement.specs.Inside.Masters.{IsMaster}
use Rattle.agreement.specs.Inside.Sound.{IsSoundWorld}
use Rattle.lists.proofs.Prefixes.{prefix_then, prefix_either, prefix_length}
use Rattle.agreement.proofs.Frame.Apart.{chosen_within}
use Rattle.agreement.proofs.Frame.Framing.{within_of}
use Rattle.agreement.proofs.Frame.Later.{chosen_kept, takes}
use Rattle.agreement.proofs.Frame.Bases.{one_line}
use Rattle.agreement.proofs.Agreed.AppliedAgreed.{chosen_list, applied_agreed, agreed_held}

-- two logs that were installed in one ballot
same_ballot : {S C O : Type 0} (rules : Rules S C O) (w : GroupWorld S C O) (h : History C) (n k : ℕ) (r q : ReplicaState S C) → IsSoundWorld rules w h →
    slice_get w.nodes n ≡ Some r → slice_get w.nodes k ≡ Some q → r.held_in ≡ q.held_in → IsPrefixOf r.log q.log ⊎ IsPrefixOf q.log r.log
same_ballot {S = S} {C = C} rules w h n k r q s e f same = by_ballot (cases_lt 0 r.held_in)
  where
    by_ballot : (0 < r.held_in) ⊎ (r.held_in ≤ 0) → IsPrefixOf r.log q.log ⊎ IsPrefixOf q.log r.log
    by_ballot (inr none) =
        let empty = (s.nodes n r e).empty (omega (arith, none)) in
        inl (subst (λ (us : List C). IsPrefixOf us q.log) (sym empty) (record { rest = q.log; is = refl }))
    by_ballot (inl up) =
        let a = (s.nodes n r e).placed.between up in let b = (s.nodes k q f).placed.between (omega (arith, up, same)) in
        let one = one_line (h.line r.held_in) b.2.0 a.2.0 (ap h.line same ∙ b.2.1) a.2.1 in
        prefix_either r.log q.log a.2.0.list a.2.3 (subst (λ (u : Line C). IsPrefixOf q.log u.list) one b.2.3)

-- the nodes agree
pub sound_agrees : {S C O : Type 0} (rules : Rules S C O) (m : MasterState) (w : GroupWorld S C O) (h : History C) (xs : List C) →
    IsSoundWorld rules w h → IsMaster m h → IsAgreedIn w h xs → Agrees rules m w xs
sound_agrees {S = S} {C = C} {O = O} rules m w h xs s k a =
    record {
      applied = λ n r e. applied_agreed w h r xs a (s.nodes n r e).applied;
      held = λ n r e i. agreed_held rules w h xs m.active k.older k.active_members.0 n r s a.chosen k.newest k.active_members.1
          (subst (λ ms. In (n + 1) ms) (sym k.active_members.2) i) e;
      fronts = λ n j r q e f same. same_ballot rules w h n j r q s e f same;
    }

-- what left is in order
pub sound_leaves : {S C O : Type 0} (rules : Rules S C O) (moments : List (Moment S C O)) (w : GroupWorld S C O) (h : History C) (xs : List C) →
    IsSoundWorld rules w h → IsAgreedIn w h xs → ((b : ℕ) → In b h.activated → WasActive moments b) → LeftInOrder rules moments w xs
sound_leaves {S = S} {C = C} {O = O} rules moments w h xs s a active =
    record {
      segments = s.left.segments;
      left = s.left.left xs (λ b j l i e c. a.longest (take j l.list) (chosen_list w h b j l i e c));
      inside = λ y i. inside y (s.left.chosen y i);
      given = λ y i. active y.ballot (s.left.chosen y i).0;
      in_order = s.left.in_order;
    }
  where
    inside : (y : Segment) → In y.ballot h.activated × (y.first < y.end) × IsChosenIn w h y.ballot y.end
        × ((l : Line C) × (h.line y.ballot ≡ Some l) × (length l.base ≤ y.first)) → (y.first < y.end) × (y.end ≤ length xs)
    inside y (i, rising, chosen, (l, lined, low)) =
        let p = prefix_length (a.longest (take y.end l.list) (chosen_list w h y.ballot y.end l i lined chosen)) in
        let z = length-take-le y.end l.list (chosen_within w h s.ballots (within_of rules w h s) y.ballot y.end l lined chosen) in
        (rising, omega (arith, p, z))

-- the agreed list only grows
pub agreed_grows : {S C O : Type 0} (rules : Rules S C O) (w v : GroupWorld S C O) (h : History C) (xs ys : List C) → (g : HistoryGoesOn rules w h v) →
    IsAgreedIn w h xs → IsAgreedIn v g.history ys → IsPrefixOf xs ys
agreed_grows {S = S} {C = C} rules w v h xs ys g a b = by_chosen a.chosen
  where
    by_chosen : (xs ≡ []) ⊎ ChosenList w h xs → IsPrefixOf xs ys
    by_chosen (inl none) = subst (λ (us : List C). IsPrefixOf us ys) (sym none) (record { rest = ys; is = refl })
    by_chosen (inr c) =
        let y = g.extends.lines c.ballot c.line c.lined in
        subst (λ (us : List C). IsPrefixOf us ys) (sym c.is)
        (prefix_then (takes c.places y.3)
        (b.longest (take c.places y.0.list)
        (chosen_list v g.history c.ballot c.places y.0 (g.active c.ballot c.activated) y.1
        (chosen_kept w v h g.history c.ballot c.places g.extends c.chosen))))
