-- OwnSteps.antt: each step of a node keeps the order of proposals, of which it adds at most its
-- own; and so it is in each log.
use Rattle.std.proofs.Common.{◌≡◌, ℕ, ◌<◌, ◌≤◌, ◌⊎◌, inl, inr, Bool, List, [], ◌∷◌, ◌++◌, Some, None, Option, refl, ap, sym, ◌∙◌, subst, arith}
use Rattle.std.specs.Prelude.{slice_get, filter}
use Rattle.std.proofs.lemmas.Bool.{cases_lt}
use Rattle.std.proofs.lemmas.List.Elements.{filter-append}
use Rattle.machine.specs.Machine.{Rules}
use Rattle.agreement.specs.whole_logs.Protocol.{Input}
use Rattle.agreement.specs.whole_logs.Protocol.Input.{Receives, Proposes, Ticks}
use Rattle.agreement.specs.whole_logs.Replica.{ReplicaState}
use Rattle.agreement.specs.Proposals.{proposal_by}
use Rattle.agreement.specs.World.{GroupWorld}
use Rattle.lists.specs.Lists.{IsPrefixOf}
use Rattle.agreement.specs.Inside.Ballots.{Line, History}
use Rattle.agreement.specs.Inside.MomentSteps.{AddsBy}
use Rattle.agreement.specs.Inside.Keeps.{NodeGoesOn, LineAdds}
use Rattle.agreement.specs.Inside.Keeps.LineAdds.{as_it_was, begins_after, adds_one}
use Rattle.agreement.specs.Proposals.{commands_of, IsOfBallot}
use Rattle.agreement.specs.Inside.Own.{OwnLines}
use Rattle.agreement.specs.Inside.Sound.{IsSoundWorld}
use Rattle.lists.proofs.Prefixes.{prefix_then}
use Rattle.agreement.proofs.Orders.Owning.{own_starts, own_proposed}
use Rattle.agreement.proofs.Frame.Bases.{one_line}

-- the proposals after a step of a node: those before, or one more
pub record OwnGoesOn {C : Type 0} (start_of : ℕ → C) (h : History C) (rows adds : List (ℕ × C)) : Type 0 where
  pub later : List (ℕ × C)
  pub way : (later ≡ rows) ⊎ (later ≡ rows ++ adds)
  pub own : OwnLines start_of h later

same_rows : {C : Type 0} (start_of : ℕ → C) (h : History C) (rows adds : List (ℕ × C)) → OwnLines start_of h rows → OwnGoesOn start_of h rows adds
same_rows start_of h rows adds s = record { later = rows; way = inl refl; own = s }

-- lists stay there
still_lined : {S C O : Type 0} (rules : Rules S C O) (w v : GroupWorld S C O) (h : History C) (adds : ℕ → C → Type 0) →
    (g : NodeGoesOn rules w h adds v) → (b : ℕ) (l : Line C) → h.line b ≡ Some l → (k : Line C) × (g.history.line b ≡ Some k)
still_lined rules w v h adds g b l e = let z = g.extends.lines b l e in (z.0, z.1)

-- a proposal that was added to no list, or to that of its ballot
own_by_proposal : {S C O : Type 0} (rules : Rules S C O) (w v : GroupWorld S C O) (h : History C) (p : ℕ) (c : C) (rows : List (ℕ × C)) →
    (g : NodeGoesOn rules w h (λ b x. (b ≡ p) × (x ≡ c)) v) → OwnLines rules.start_of h rows →
    (o : Option (Line C)) → g.history.line p ≡ o → OwnGoesOn rules.start_of g.history rows ((p, c) ∷ [])
own_by_proposal {S = S} {C = C} {O = O} rules w v h p c rows g s None unlined =
    same_rows rules.start_of g.history rows ((p, c) ∷ [])
    (own_starts rules.start_of (λ b x. ⊥) h g.history rows (λ b x z. absurd z) (still_lined rules w v h _ g)
    (λ b k e. by_line b k e (g.added b k e)) s)
  where
    by_line : (b : ℕ) (k : Line C) → g.history.line b ≡ Some k → LineAdds (λ b x. (b ≡ p) × (x ≡ c)) h b k → LineAdds (λ b x. ⊥) h b k
    by_line b k e (as_it_was f) = as_it_was f
    by_line b k e (begins_after u q f none before front) = begins_after u q f none before front
    by_line b k e (adds_one l x f same (at, is)) = let z = ap g.history.line at in cc
own_by_proposal {S = S} {C = C} {O = O} rules w v h p c rows g s (Some k) lined = by_line (g.added p k lined)
  where
    plain : ((b : ℕ) (y : Line C) → b ≡ p → g.history.line b ≡ Some y → LineAdds (λ b x. ⊥) h b y) → OwnGoesOn rules.start_of g.history rows ((p, c) ∷ [])
    plain f =
        same_rows rules.start_of g.history rows ((p, c) ∷ [])
        (own_starts rules.start_of (λ b x. ⊥) h g.history rows (λ b x z. absurd z) (still_lined rules w v h _ g)
        (λ b y e. by_added b y e (g.added b y e)) s)
      where
        by_added : (b : ℕ) (y : Line C) → g.history.line b ≡ Some y → LineAdds (λ b x. (b ≡ p) × (x ≡ c)) h b y → LineAdds (λ b x. ⊥) h b y
        by_added b y e (as_it_was z) = as_it_was z
        by_added b y e (begins_after u q z none before front) = begins_after u q z none before front
        by_added b y e (adds_one l x z same (at, is)) = f b y at e

    by_line : LineAdds (λ b x. (b ≡ p) × (x ≡ c)) h p k → OwnGoesOn rules.start_of g.history rows ((p, c) ∷ [])
    by_line (as_it_was e) =
        plain (λ b y at f. as_it_was (ap h.line at ∙ e ∙ ap Some (one_line (g.history.line p) k y lined (ap g.history.line (sym at) ∙ f))))
    by_line (begins_after u q e none before front) =
        plain (λ b y at f.
        let one = one_line (g.history.line p) k y lined (ap g.history.line (sym at) ∙ f) in
        subst (λ x. LineAdds (λ b x. ⊥) h x y) (sym at) (subst (λ (z : Line C). LineAdds (λ b x. ⊥) h p z) one
        (begins_after u q e none before front)))
    by_line (adds_one l x e same (at, is)) =
        record {
          later = rows ++ (p, c) ∷ [];
          way = inr refl;
          own = own_proposed rules.start_of h g.history rows p c l k e lined (same ∙ ap (λ o. l.list ++ o ∷ []) is)
              (still_lined rules w v h _ g) g.added s;
        }

-- a step of a node
pub own_goes_on : {S C O : Type 0} (rules : Rules S C O) (w v : GroupWorld S C O) (h : History C) (r : ReplicaState S C) (input : Input C)
    (rows : List (ℕ × C)) → (g : NodeGoesOn rules w h (AddsBy rules r input) v) → OwnLines rules.start_of h rows →
    OwnGoesOn rules.start_of g.history rows (proposal_by r input)
own_goes_on rules w v h r (Receives message) rows g s =
    same_rows rules.start_of g.history rows []
    (own_starts rules.start_of (λ b x. x ≡ rules.start_of b) h g.history rows (λ b x e. e) (still_lined rules w v h _ g) g.added s)
own_goes_on rules w v h r (Proposes c) rows g s =
    own_by_proposal rules w v h r.joined c rows g s (g.history.line r.joined) refl
own_goes_on rules w v h r Ticks rows g s =
    same_rows rules.start_of g.history rows []
    (own_starts rules.start_of (λ b x. ⊥) h g.history rows (λ b x z. absurd z) (still_lined rules w v h _ g) g.added s)

-- what clients need of it: in each log the commands of one ballot are a prefix of those proposed in
-- it
pub own_in_logs : {S C O : Type 0} (rules : Rules S C O) (w : GroupWorld S C O) (h : History C) (rows : List (ℕ × C)) → IsSoundWorld rules w h →
    OwnLines rules.start_of h rows → (n : ℕ) (r : ReplicaState S C) → slice_get w.nodes n ≡ Some r → (names : C → Bool) (ballot : ℕ) →
    IsOfBallot rules.start_of names ballot rows → IsPrefixOf (filter names r.log) (filter names (commands_of rows))
own_in_logs {S = S} {C = C} rules w h rows s own n r stands names ballot of = by_ballot (cases_lt 0 r.held_in)
  where
    by_ballot : (0 < r.held_in) ⊎ (r.held_in ≤ 0) → IsPrefixOf (filter names r.log) (filter names (commands_of rows))
    by_ballot (inr none) =
        let empty = (s.nodes n r stands).empty (omega (arith, none)) in
        subst (λ (us : List C). IsPrefixOf (filter names us) (filter names (commands_of rows))) (sym empty)
        (record { rest = filter names (commands_of rows); is = refl })
    by_ballot (inl up) =
        let b = (s.nodes n r stands).placed.between up in
        prefix_then
        (record { rest = filter names b.2.3.rest; is = ap (filter names) b.2.3.is ∙ filter-append names r.log b.2.3.rest })
        (own.own names ballot of r.held_in b.2.0 b.2.1).0
