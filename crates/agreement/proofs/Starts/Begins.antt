-- Begins.antt: a step that adds a ballot's start, or follows it, keeps where each ballot begins.
use Rattle.std.proofs.Common.{◌≡◌, ℕ, ◌<◌, ◌⊎◌, inl, inr, true, false, List, [], ◌∷◌, ◌++◌, length, Some, None, ap, sym, ◌∙◌, subst, arith}
use Rattle.std.specs.Prelude.{slice_get}
use Rattle.std.proofs.lemmas.Bool.{cases_Bool}
use Rattle.machine.specs.Machine.{Rules}
use Rattle.agreement.specs.whole_logs.Protocol.{Input, replica_step}
use Rattle.agreement.specs.whole_logs.Protocol.Input.{Receives, Proposes, Ticks}
use Rattle.agreement.specs.whole_logs.Replica.{ReplicaState}
use Rattle.ballot_base.specs.Replica.{is_active}
use Rattle.agreement.proofs.of_whole_logs.StepRows.{proposed-not_active}
use Rattle.agreement.specs.World.{GroupWorld}
use Rattle.lists.specs.Lists.{In}
use Rattle.agreement.specs.Inside.Ballots.{Line, History}
use Rattle.agreement.specs.Inside.Begun.{AreBegun, BeginsOrFollows, AreLong}
use Rattle.agreement.specs.Inside.MomentSteps.{AddsBy}
use Rattle.agreement.specs.Steps.{MayTake}
use Rattle.agreement.specs.Inside.Keeps.{NodeGoesOn, KeepsAdding, LineAdds}
use Rattle.agreement.specs.Inside.Keeps.LineAdds.{as_it_was, begins_after, adds_one}
use Rattle.agreement.specs.Replays.{IsReplay}
use Rattle.agreement.specs.Inside.Sound.{IsSoundWorld}
use Rattle.lists.proofs.Prefixes.{prefix_get}
use Rattle.lists.proofs.Places.{get_pushed}
use Rattle.agreement.proofs.Frame.Adding.{adds_less}
use Rattle.agreement.proofs.Frame.Quiet.{keeps_nothing}
use Rattle.agreement.proofs.Frame.Roles.{role_active}
use Rattle.agreement.proofs.Frame.Bases.{one_line}
use Rattle.agreement.proofs.Runs.Steps.{keeps_step}

-- the lists after a step
pub begun_lines : {S C O : Type 0} (rules : Rules S C O) (w v : GroupWorld S C O) (h : History C) (adds : ℕ → C → Type 0) →
    ((b : ℕ) (c : C) → adds b c → BeginsOrFollows rules.start_of h b c) → IsSoundWorld rules w h → (g : NodeGoesOn rules w h adds v) →
    AreBegun rules.start_of h → AreBegun rules.start_of g.history
begun_lines {S = S} {C = C} rules w v h adds may s g begun b k e = by_line (g.added b k e)
  where
    by_still : In b g.history.activated ⊎ (k.list ≡ k.base) → h.line b ≡ None →
        (b ≡ 1) ⊎ ((k.list ≡ k.base) ⊎ (slice_get k.list (length k.base) ≡ Some (rules.start_of b)))
    by_still (inr same) none = inr (inl same)
    by_still (inl active) none =
        let i : In b h.activated = subst (λ bs. In b bs) (ap (λ (x : History C). x.activated) g.ballots) active in
        let t = s.lines.told b i in let f = t.1 in cc

    by_next : (l : Line C) (c : C) → h.line b ≡ Some l → k.list ≡ l.list ++ c ∷ [] → k.base ≡ l.base → BeginsOrFollows rules.start_of h b c →
        (b ≡ 1) ⊎ ((l.list ≡ l.base) ⊎ (slice_get l.list (length l.base) ≡ Some (rules.start_of b))) →
        (b ≡ 1) ⊎ ((k.list ≡ k.base) ⊎ (slice_get k.list (length k.base) ≡ Some (rules.start_of b)))
    by_next l c f same base a (inl none) = inl none
    by_next l c f same base a (inr (inr at)) =
        inr (inr (ap (λ (us : List C). slice_get k.list (length us)) base
        ∙ prefix_get (length l.base) (rules.start_of b) (record { rest = c ∷ []; is = same }) at))
    by_next l c f same base (inr follows) (inr (inl still)) = inl (follows l f still)
    by_next l c f same base (inl starts) (inr (inl still)) =
        inr (inr (ap (λ (us : List C). slice_get k.list (length us)) (base ∙ sym still)
        ∙ ap (λ (us : List C). slice_get us (length l.list)) same ∙ get_pushed l.list c ∙ ap Some starts))

    by_line : LineAdds adds h b k → (b ≡ 1) ⊎ ((k.list ≡ k.base) ⊎ (slice_get k.list (length k.base) ≡ Some (rules.start_of b)))
    by_line (as_it_was f) = begun b k f
    by_line (begins_after u p given none before front) = by_still (g.sound.lines.still b k e) none
    by_line (adds_one l c f same a) =
        let z = g.extends.lines b l f in
        let one : z.0 ≡ k = one_line (g.history.line b) z.0 k z.1 e in
        by_next l c f same (sym (ap (λ (x : Line C). x.base) one) ∙ z.2) (may b c a) (begun b l f)

-- an active primary's list is longer than its base, but in the first ballot
follows_active : {S C : Type 0} (h : History C) (r : ReplicaState S C) → (r.joined ≡ 1) ⊎ ((l : Line C) → h.line r.joined ≡ Some l →
    length l.base < length l.list) → (l : Line C) → h.line r.joined ≡ Some l → l.list ≡ l.base → r.joined ≡ 1
follows_active h r (inl one) l lined still = one
follows_active h r (inr longer) l lined still = let z = longer l lined in let u = ap length still in absurd (omega (arith, z, u))

-- what a step of a node adds is as it was said, and begins or follows
pub keeps_begun : {S C O : Type 0} (rules : Rules S C O) (w : GroupWorld S C O) (h : History C) (n : ℕ) (r : ReplicaState S C) (input : Input C) →
    IsSoundWorld rules w h → AreLong w h → slice_get w.nodes n ≡ Some r → IsReplay rules r → MayTake w n input →
    KeepsAdding rules w h n (λ b c. AddsBy rules r input b c × BeginsOrFollows rules.start_of h b c) (replica_step rules r input)
keeps_begun rules w h n r (Receives message) s long e ran i =
    adds_less rules w h n (AddsBy rules r (Receives message)) _ _ (λ b c z. (z, inl z)) (keeps_step rules w h n r (Receives message) s e ran i)
keeps_begun rules w h n r Ticks s long e ran i =
    adds_less rules w h n (AddsBy rules r Ticks) _ _ (λ b c z. absurd z) (keeps_step rules w h n r Ticks s e ran i)
keeps_begun {S = S} {C = C} rules w h n r (Proposes x) s long e ran i = by_role (cases_Bool (is_active r.role))
  where
    by_role : (is_active r.role ≡ true) ⊎ (is_active r.role ≡ false) →
        KeepsAdding rules w h n (λ b c. AddsBy rules r (Proposes x) b c × BeginsOrFollows rules.start_of h b c) (replica_step rules r (Proposes x))
    by_role (inl a) =
        adds_less rules w h n (AddsBy rules r (Proposes x)) _ _
        (λ b c z. (
          z,
          inr (λ l f still.
              z.0 ∙ follows_active h r (long n r e (role_active r.role a)) l (ap h.line (sym z.0) ∙ f) still),
        ))
        (keeps_step rules w h n r (Proposes x) s e ran i)
    by_role (inr a) =
        adds_less rules w h n (λ b c. ⊥) _ _ (λ b c z. absurd z) (keeps_nothing rules w h n r _ s e (proposed-not_active rules r x a))
