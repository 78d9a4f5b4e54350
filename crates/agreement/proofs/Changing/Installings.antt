-- Installings.antt: an Installed that comes to a new primary.
use Rattle.std.proofs.Common.{◌≡◌, ℕ, ◌+◌, ◌⊎◌, inl, inr, true, false, Some, sym, subst}
use Rattle.std.specs.Prelude.{slice_get, ◌&&◌, ◌==◌}
use Rattle.std.specs.List.{list_any}
use Rattle.std.proofs.lemmas.Bool.{cases_Bool, and_parts, eqb-true}
use Rattle.machine.specs.Machine.{Rules}
use Rattle.agreement.specs.whole_logs.Messages.Body.{Installed}
use Rattle.agreement.specs.whole_logs.Replica.{ReplicaState}
use Rattle.ballot_base.specs.Replica.{is_installing}
use Rattle.agreement.specs.whole_logs.StepOutcome.{Outcome}
use Rattle.agreement.specs.whole_logs.Activation.{on_installed}
use Rattle.agreement.specs.World.{GroupWorld}
use Rattle.lists.specs.Lists.{In}
use Rattle.agreement.specs.Inside.Ballots.{History}
use Rattle.agreement.specs.Inside.Keeps.{KeepsSoundness}
use Rattle.agreement.specs.Inside.Sound.{IsSoundWorld}
use Rattle.agreement.proofs.Frame.Quiet.{keeps_nothing}
use Rattle.agreement.proofs.of_whole_logs.ChangeRows.{on_installed-stays, on_installed-counts}
use Rattle.agreement.proofs.Changing.InstalledCounts.{installed_noted}

-- an Installed that comes
pub keeps_installed : {S C O : Type 0} (rules : Rules S C O) (w : GroupWorld S C O) (h : History C) (n : ℕ) (r : ReplicaState S C)
    (from b held : ℕ) → IsSoundWorld rules w h → slice_get w.nodes n ≡ Some r →
    In (n + 1, record { from = from; body = Installed b held }) w.sent → KeepsSoundness rules w h n (on_installed O r from b)
keeps_installed {S = S} {C = C} {O = O} rules w h n r from b held s stands sent =
    by_role (cases_Bool ((r.joined == b && is_installing r.role) && list_any (λ member. member == from) r.lacking))
  where
    by_role : (((r.joined == b && is_installing r.role) && list_any (λ member. member == from) r.lacking) ≡ true)
        ⊎ (((r.joined == b && is_installing r.role) && list_any (λ member. member == from) r.lacking) ≡ false) →
        KeepsSoundness rules w h n (on_installed O r from b)
    by_role (inl e) =
        let p = and_parts (r.joined == b && is_installing r.role) (list_any (λ member. member == from) r.lacking) e in
        let q = and_parts (r.joined == b) (is_installing r.role) p.0 in
        subst (λ (o : Outcome S C O). KeepsSoundness rules w h n o) (sym (on_installed-counts O r from b e))
        (installed_noted rules w h n r from b held s stands sent (eqb-true r.joined b q.0) q.1)
    by_role (inr e) = keeps_nothing rules w h n r _ s stands (on_installed-stays O r from b e)
