-- ReplaysKept.antt: machines stay the replay of what their nodes applied, whichever log a node is handed.
use Rattle.std.proofs.Common.{◌≡◌, ℕ, ◌⊎◌, inl, inr, false, List, set, Some, ap, sym, ◌∙◌, subst}
use Rattle.std.specs.Prelude.{slice_get}
use Rattle.std.proofs.lemmas.Bool.{cases_eq}
use Rattle.machine.specs.Machine.{Rules, replay}
use Rattle.agreement.specs.whole_logs.Messages.{Effect}
use Rattle.agreement.specs.whole_logs.Losses.{Loses}
use Rattle.agreement.specs.whole_logs.Protocol.{Input, replica_step}
use Rattle.agreement.specs.whole_logs.Replica.{ReplicaState}
use Rattle.ballot_base.proofs.AppliesInOrder.{replay_goes_on}
use Rattle.agreement.specs.World.{GroupWorld, moved}
use Rattle.agreement.specs.Inside.Ballots.{History}
use Rattle.agreement.specs.Inside.Keeps.{NodeGoesOn}
use Rattle.agreement.specs.Replays.{IsReplay, AreReplays}
use Rattle.agreement.specs.Inside.Sound.{IsSoundWorld}
use Rattle.lists.proofs.Places.{get_set, get_set_other}
use Rattle.agreement.proofs.Machines.Applies.{Applies}
use Rattle.agreement.proofs.Machines.Comparing.{applied_stays}
use Rattle.agreement.proofs.Machines.StepApplies.{step_applies}

-- a node that continues by the places that are new is a replay still: what it applied before stays
-- in its log
replay_kept : {S C O : Type 0} (rules : Rules S C O) (w : GroupWorld S C O) (h : History C) (n : ℕ) (old new : ReplicaState S C)
    (given : List (Effect C O)) (adds : ℕ → C → Type 0) → IsSoundWorld rules w h → NodeGoesOn rules w h adds (moved w n new given) →
    slice_get w.nodes n ≡ Some old → Applies rules old new → IsReplay rules old → IsReplay rules new
replay_kept {C = C} rules w h n old new given adds s g stands a ran =
    a.machine ∙ replay_goes_on rules old.machine new.log old.committed new.committed a.up
    (ran ∙ ap (replay rules) (sym (applied_stays rules w (moved w n new given) h n old new adds s g stands (get_set w.nodes n old new stands) a.up)))

-- the other nodes are as they were
pub replays_moved : {S C O : Type 0} (rules : Rules S C O) (w : GroupWorld S C O) (n : ℕ) (old new : ReplicaState S C)
    (given : List (Effect C O)) → slice_get w.nodes n ≡ Some old → AreReplays rules w → (new.stopped ≡ false → IsReplay rules new) →
    AreReplays rules (moved w n new given)
replays_moved {S = S} {C = C} rules w n old new given stands all ran m r e runs = by_place (cases_eq m n)
  where
    by_place : (m ≡ n) ⊎ (m ≡ n → ⊥) → IsReplay rules r
    by_place (inl same) =
        let f : Some new ≡ Some r = sym (get_set w.nodes n old new stands) ∙ ap (slice_get (set w.nodes n new)) (sym same) ∙ e in
        let g : new ≡ r = cc in
        subst (λ (x : ReplicaState S C). IsReplay rules x) g (ran (ap (λ (x : ReplicaState S C). x.stopped) g ∙ runs))
    by_place (inr other) = all m r (sym (get_set_other w.nodes n m new other) ∙ e) runs

-- a step of a node, perhaps with losses
pub step_replays : {S C O : Type 0} (rules : Rules S C O) (w : GroupWorld S C O) (h : History C) (n : ℕ) (old : ReplicaState S C) (input : Input C)
    (new : ReplicaState S C) (given : List (Effect C O)) (adds : ℕ → C → Type 0) → IsSoundWorld rules w h →
    NodeGoesOn rules w h adds (moved w n new given) → slice_get w.nodes n ≡ Some old → old.stopped ≡ false → AreReplays rules w →
    Loses rules old (replica_step rules old input) new given → AreReplays rules (moved w n new given)
step_replays {S = S} {C = C} {O = O} rules w h n old input new given adds s g stands runs all loses =
    replays_moved rules w n old new given stands all (λ going. by_loss going loses)
  where
    before : IsReplay rules old
    before = all n old stands runs

    by_loss : new.stopped ≡ false → Loses rules old (replica_step rules old input) new given → IsReplay rules new
    by_loss going (inl (e, thinned)) =
        replay_kept rules w h n old new given adds s g stands
        (subst (λ (x : ReplicaState S C). Applies rules old x) (sym e) (step_applies rules old input (s.nodes n old stands).within)) before
    by_loss going (inr (inl (e, none_given))) = subst (λ (x : ReplicaState S C). IsReplay rules x) (sym e) before
    by_loss going (inr (inr (e, none_given))) = let f = ap (λ (x : ReplicaState S C). x.stopped) e in cc
