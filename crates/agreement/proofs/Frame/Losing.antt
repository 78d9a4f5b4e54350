-- Losing.antt: a step with losses keeps a world sound where the step itself does.
use Rattle.std.proofs.Common.{◌≡◌, ℕ, inl, inr, List, [], Some, refl, sym, subst}
use Rattle.std.specs.Prelude.{slice_get}
use Rattle.machine.specs.Machine.{Rules}
use Rattle.agreement.specs.whole_logs.Messages.{Effect}
use Rattle.agreement.specs.whole_logs.Losses.{Loses, halted}
use Rattle.agreement.specs.whole_logs.Losses.Thinned.{none}
use Rattle.agreement.specs.whole_logs.Replica.{ReplicaState}
use Rattle.agreement.specs.whole_logs.StepOutcome.{Outcome, nothing_done}
use Rattle.agreement.specs.World.{GroupWorld, moved}
use Rattle.agreement.specs.Inside.Ballots.{History}
use Rattle.agreement.specs.Inside.Keeps.{NodeGoesOn, KeepsAdding}
use Rattle.agreement.specs.Inside.Sound.{IsSoundWorld}
use Rattle.agreement.proofs.Frame.Adding.{adds_less}
use Rattle.agreement.proofs.Frame.Quiet.{keeps_nothing, keeps_halted}

-- a step with losses
pub lossy_goes_on : {S C O : Type 0} (rules : Rules S C O) (w : GroupWorld S C O) (h : History C) (n : ℕ) (old : ReplicaState S C)
    (adds : ℕ → C → Type 0) (o : Outcome S C O) (new : ReplicaState S C) (given : List (Effect C O)) → IsSoundWorld rules w h → slice_get w.nodes n ≡ Some old →
    KeepsAdding rules w h n adds o → Loses rules old o new given → NodeGoesOn rules w h adds (moved w n new given)
lossy_goes_on {S = S} {C = C} {O = O} rules w h n old adds o new given s stands keeps (inl (e, thinned)) =
    subst (λ (r : ReplicaState S C). NodeGoesOn rules w h adds (moved w n r given)) (sym e) (keeps given thinned)
lossy_goes_on {S = S} {C = C} {O = O} rules w h n old adds o new given s stands keeps (inr (inl (e, f))) =
    subst (λ (r : ReplicaState S C). NodeGoesOn rules w h adds (moved w n r given)) (sym e)
    (subst (λ (us : List (Effect C O)). NodeGoesOn rules w h adds (moved w n old us)) (sym f)
    (adds_less rules w h n (λ b c. ⊥) adds (nothing_done O old) (λ b c z. absurd z)
    (keeps_nothing rules w h n old (nothing_done O old) s stands refl) [] none))
lossy_goes_on {S = S} {C = C} {O = O} rules w h n old adds o new given s stands keeps (inr (inr (e, f))) =
    subst (λ (r : ReplicaState S C). NodeGoesOn rules w h adds (moved w n r given)) (sym e)
    (subst (λ (us : List (Effect C O)). NodeGoesOn rules w h adds (moved w n (halted rules old) us)) (sym f)
    (adds_less rules w h n (λ b c. ⊥) adds (record { state = halted rules old; effects = [] }) (λ b c z. absurd z)
    (keeps_halted rules w h n old s stands) [] none))
