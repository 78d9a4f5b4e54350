-- PlainSteps.antt: a step with no proposal keeps the order of what was taken.
use Rattle.std.proofs.Common.{◌≡◌, ℕ, zero, suc, ◌⊎◌, inl, inr, List, [], ◌∷◌, ◌++◌, set, Some, refl, ap, sym, ◌∙◌, subst}
use Rattle.std.specs.Prelude.{slice_get}
use Rattle.std.proofs.lemmas.List.{append-nil}
use Rattle.machine.specs.Machine.{Rules}
use Rattle.agreement.specs.whole_logs.Messages.{Effect}
use Rattle.agreement.specs.whole_logs.Replica.{ReplicaState}
use Rattle.lists.specs.Lists.{In}
use Rattle.agreement.specs.Inside.Ballots.{History}
use Rattle.agreement.specs.Inside.BallotsStand.{Applied}
use Rattle.agreement.specs.Inside.Extension.{Extends}
use Rattle.agreement.specs.Inside.MomentSteps.{MomentStep, adds_of}
use Rattle.agreement.specs.Inside.Own.{OwnLines}
use Rattle.agreement.specs.Inside.Serves.{Serves}
use Rattle.agreement.specs.Inside.Sound.{IsSoundWorld}
use Rattle.agreement.specs.MasterState.{MasterState}
use Rattle.agreement.specs.Moments.{Moment}
use Rattle.agreement.specs.Proposals.{proposal_of}
use Rattle.agreement.specs.Steps.{MayHappen}
use Rattle.agreement.specs.World.{GroupWorld, moved}
use Rattle.agreement.proofs.Agreed.KnownSteps.{serves_then}
use Rattle.agreement.proofs.Frame.Framing.{within_of}
use Rattle.agreement.proofs.Frame.Later.{applied_kept}
use Rattle.agreement.proofs.Runs.RunsGoOn.{group_goes_on}
use Rattle.agreement.proofs.Runs.Serves.{one_step}

-- what the nodes applied at these moments
abbrev pub WereApplied : {S C O : Type 0} → List (Moment S C O) → GroupWorld S C O → History C → Type 0
WereApplied {S} {C} {O} moments w h =
    (c : Moment S C O) → In c moments → (n : ℕ) (r : ReplicaState S C) → slice_get c.world.nodes n ≡ Some r → Applied w h r

-- .. is so still after a step
pub were_applied : {S C O : Type 0} (rules : Rules S C O) (moments : List (Moment S C O)) (w v : GroupWorld S C O) (h i : History C) → IsSoundWorld rules w h →
    Extends w h v i → ((b : ℕ) → In b h.activated → In b i.activated) → WereApplied moments w h → WereApplied moments v i
were_applied rules moments w v h i s extends active were c j n r stands =
    applied_kept w v h i r extends active (within_of rules w h s) (were c j n r stands)

-- the rows that were taken, with the history whose lists have them in order
pub record IsOrdered {S C O : Type 0} (rules : Rules S C O) (moments : List (Moment S C O)) (m : MasterState) (w : GroupWorld S C O)
    (rows : List (ℕ × C)) : Type 0 where
  pub history : History C
  pub serves : Serves rules m w history
  pub were : WereApplied moments w history
  pub own : OwnLines rules.start_of history rows

-- a step with no proposal
pub plain_step : {S C O : Type 0} (rules : Rules S C O) (moments : List (Moment S C O)) (m : MasterState) (w : GroupWorld S C O) (k : MasterState) (v : GroupWorld S C O) (rows : List (ℕ × C)) →
    (step : MayHappen rules m w k v) → proposal_of step ≡ [] → IsOrdered rules moments m w rows → IsOrdered rules moments k v rows
plain_step {S = S} {C = C} {O = O} rules moments m w k v rows step none q = by_step (one_step rules m w k v step)
  where
    by_step : ((k ≡ m) × (v ≡ w)) ⊎ ((g : MomentStep rules m w k v) × (adds_of g ≡ proposal_of step)) → IsOrdered rules moments k v rows
    by_step (inl (same, still)) =
        subst (λ (x : MasterState). IsOrdered rules moments x v rows) (sym same) (subst (λ (u : GroupWorld S C O). IsOrdered rules moments m u rows) (sym still) q)
    by_step (inr (goes, adds)) =
        let s = q.serves in
        let x = group_goes_on rules m k w v q.history s.sound s.long s.replays s.master goes in
        let o = x.run.group.own rows q.own in
        record {
          history = x.run.group.goes_on.history;
          serves = serves_then rules m k w v q.history (adds_of goes) s x step;
          were = were_applied rules moments w v q.history x.run.group.goes_on.history s.sound x.run.group.goes_on.extends x.run.group.goes_on.active q.were;
          own = by_way o.later o.own o.way;
        }
      where
        by_way : {h : History C} (later : List (ℕ × C)) → OwnLines rules.start_of h later → (later ≡ rows) ⊎ (later ≡ rows ++ adds_of goes) →
            OwnLines rules.start_of h rows
        by_way {h = h} later own (inl same) = subst (λ us. OwnLines rules.start_of h us) same own
        by_way {h = h} later own (inr more) =
            subst (λ us. OwnLines rules.start_of h us) (more ∙ ap (λ us. rows ++ us) (adds ∙ none) ∙ append-nil rows) own

-- a list with what it has at a place
set_same : {X : Type 0} (xs : List X) (n : ℕ) (x : X) → slice_get xs n ≡ Some x → set xs n x ≡ xs
set_same [] n x e = refl
set_same (y ∷ xs) zero x e = let h : x ≡ y = cc in ap (λ z. z ∷ xs) h
set_same (y ∷ xs) (suc n) x e = ap (λ zs. y ∷ zs) (set_same xs n x e)

-- a node that does nothing leaves the world
pub moved_same : {S C O : Type 0} (w : GroupWorld S C O) (n : ℕ) (r new : ReplicaState S C) (given : List (Effect C O)) → slice_get w.nodes n ≡ Some r →
    new ≡ r → given ≡ [] → moved w n new given ≡ w
moved_same {S = S} {C = C} {O = O} w n r new given stands e f =
    ap (λ (x : ReplicaState S C). moved w n x given) e ∙ ap (moved w n r) f
    ∙ ap (λ ns. let u : GroupWorld S C O = record { nodes = ns; sent = w.sent ++ []; left = w.left ++ [] } in u) (set_same w.nodes n r stands)
    ∙ ap (λ us. let u : GroupWorld S C O = record { nodes = w.nodes; sent = us; left = w.left ++ [] } in u) (append-nil w.sent)
    ∙ ap (λ us. let u : GroupWorld S C O = record { nodes = w.nodes; sent = w.sent; left = us } in u) (append-nil w.left)
