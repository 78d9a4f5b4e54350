-- Serves.antt: in a group whose master answers each Assign, some member of the active ballot is a node that holds the agreed list.
use Rattle.std.proofs.Common.{◌⊎◌, inl, inr, ◌≡◌, ℕ, zero, suc, ◌+◌, ◌<◌, List, [], ◌∷◌, length, Some, None, Option, refl, subst, arith}
use Rattle.std.specs.Prelude.{slice_get}
use Rattle.machine.specs.Machine.{Rules}
use Rattle.agreement.specs.Proposals.{proposal_of}
use Rattle.agreement.specs.World.{GroupWorld}
use Rattle.lists.specs.Lists.{In}
use Rattle.agreement.specs.Inside.Chosen.{IsAgreedIn}
use Rattle.agreement.specs.MasterState.{AssignRefusal, refusal, master_after, MasterState}
use Rattle.agreement.specs.Steps.{world_after, MayHappen}
use Rattle.agreement.specs.Inside.Masters.{IsServing, IsMaster}
use Rattle.agreement.specs.Agreement.{Holds}
use Rattle.agreement.specs.Steps.MayHappen.{node_takes, node_stops, master_assigns, master_hears, assignment_lost, answer_lost}
use Rattle.agreement.specs.Inside.Ballots.{Given, History}
use Rattle.agreement.specs.Inside.MomentSteps.{adds_of, MomentStep}
use Rattle.agreement.specs.Inside.MomentSteps.MomentStep.{takes, stops, assigns, hears, assigns_unheard, hears_unanswered}
use Rattle.agreement.specs.Inside.Sound.{IsSoundWorld}
use Rattle.agreement.proofs.Agreed.Agreeing.{sound_agrees}
use Rattle.agreement.specs.Inside.Serves.{IsLedByNode, IsNode}
use Rattle.agreement.proofs.Masters.Assigns.{lawful_is, not_refused, serving_assigned, serving_activated}

-- a step of such a group changes nothing, or is one of the group that takes in the same proposal
pub one_step : {S C O : Type 0} (rules : Rules S C O) (m : MasterState) (w : GroupWorld S C O) (k : MasterState) (v : GroupWorld S C O) →
    (step : MayHappen rules m w k v) →
    ((k ≡ m) × (v ≡ w)) ⊎ ((g : MomentStep rules m w k v) × (adds_of g ≡ proposal_of step))
one_step rules m w k v (node_takes n r input stands runs may loses) = inr (takes n r input stands runs may loses, refl)
one_step rules m w k v (node_stops n r stands) = inr (stops n r stands, refl)
one_step rules m w k v (master_hears from b sent) = inr (hears from b sent, refl)
one_step rules m w k v (answer_lost from b sent) = inr (hears_unanswered from b sent, refl)
one_step {S = S} {C = C} {O = O} rules m w k v (master_assigns config) = by_refusal (refusal m config) refl
  where
    by_refusal : (o : Option AssignRefusal) → refusal m config ≡ o →
        ((master_after m config o ≡ m) × (world_after m w config o ≡ w))
        ⊎ ((g : MomentStep rules m w (master_after m config o) (world_after m w config o)) × (adds_of g ≡ []))
    by_refusal (Some why) e = inl (refl, refl)
    by_refusal None e = inr (assigns config (lawful_is m.greatest config (not_refused m config e).0).0, refl)
one_step {S = S} {C = C} {O = O} rules m w k v (assignment_lost config) = by_refusal (refusal m config) refl
  where
    by_refusal : (o : Option AssignRefusal) → refusal m config ≡ o →
        ((master_after m config o ≡ m) × (w ≡ w)) ⊎ ((g : MomentStep rules m w (master_after m config o) w) × (adds_of g ≡ []))
    by_refusal (Some why) e = inl (refl, refl)
    by_refusal None e = inr (assigns_unheard config (lawful_is m.greatest config (not_refused m config e).0).0, refl)

-- a step keeps that members of the ballot that waits have numbers of nodes
pub serving_step : {S C O : Type 0} (rules : Rules S C O) (m : MasterState) (w : GroupWorld S C O) (k : MasterState) (v : GroupWorld S C O) → MayHappen rules m w k v →
    IsServing m → IsServing k
serving_step rules m w k v (node_takes n r input stands runs may loses) s = s
serving_step rules m w k v (node_stops n r stands) s = s
serving_step {C = C} rules m w k v (master_hears from b sent) s = serving_activated C m b from m.waiting refl s
serving_step {C = C} rules m w k v (answer_lost from b sent) s = serving_activated C m b from m.waiting refl s
serving_step rules m w k v (master_assigns config) s = serving_assigned m config (refusal m config) refl s
serving_step rules m w k v (assignment_lost config) s = serving_assigned m config (refusal m config) refl s

-- there is a node at each place below their number
node_there : {X : Type 0} (xs : List X) (n : ℕ) → n < length xs → (x : X) × (slice_get xs n ≡ Some x)
node_there [] n low = absurd (omega (arith, low))
node_there (x ∷ xs) zero low = (x, refl)
node_there (x ∷ xs) (suc n) low = node_there xs n (omega (arith, low))

-- the primary of the active ballot is a member that is a node, and holds the agreed list
pub serves_held : {S C O : Type 0} (rules : Rules S C O) (m : MasterState) (w : GroupWorld S C O) (h : History C) (xs : List C) → IsSoundWorld rules w h →
    IsMaster m h → IsLedByNode (length w.nodes) h m.active → IsAgreedIn w h xs → Holds m w xs
serves_held {S = S} {C = C} {O = O} rules m w h xs s k led agreed = by_number (subst (λ (y : Given). IsNode (length w.nodes) y.primary) same led.2)
  where
    same : led.0 ≡ k.active_members.0
    same = let a = led.1 in let b = k.active_members.1 in cc

    member : In k.active_members.0.primary m.members
    member = subst (λ ms. In k.active_members.0.primary ms) k.active_members.2 (s.ballots.led m.active k.active_members.0 k.active_members.1)

    by_number : (n : ℕ) × (k.active_members.0.primary ≡ n + 1) × (n < length w.nodes) → Holds m w xs
    by_number (n, is, low) =
        let z = node_there w.nodes n low in
        let i : In (n + 1) m.members = subst (λ x. In x m.members) is member in
        record {
          node = n;
          replica = z.0;
          stands = z.1;
          member = i;
          held = (sound_agrees rules m w h xs s k agreed).held n z.0 z.1 i;
        }
