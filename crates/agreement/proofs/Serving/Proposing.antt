-- Proposing.antt: a proposal to a node.
use Rattle.std.proofs.Common.{take, ◌≡◌, ℕ, ◌<◌, ◌≤◌, ◌⊎◌, inl, inr, true, false, length, Some, refl, sym, subst, arith}
use Rattle.std.specs.Prelude.{slice_get}
use Rattle.std.proofs.lemmas.Bool.{cases_Bool, cases_lt}
use Rattle.machine.specs.Machine.{Rules, replay}
use Rattle.agreement.specs.whole_logs.Replica.{ReplicaState}
use Rattle.ballot_base.specs.Replica.{is_active}
use Rattle.agreement.specs.whole_logs.StepOutcome.{Outcome}
use Rattle.agreement.specs.whole_logs.Service.{proposed}
use Rattle.ballot_base.specs.Service.{max_places}
use Rattle.agreement.proofs.of_whole_logs.StepRows.{proposed-adds, proposed-not_active, proposed-full}
use Rattle.agreement.specs.World.{GroupWorld}
use Rattle.agreement.specs.Inside.Ballots.{History}
use Rattle.agreement.specs.Inside.Keeps.{KeepsAdding}
use Rattle.agreement.specs.Inside.Sound.{IsSoundWorld}
use Rattle.agreement.proofs.Frame.Adding.{adds_less}
use Rattle.agreement.proofs.Serving.CommandAdded.{keeps_added}
use Rattle.agreement.proofs.Serving.Leading.{active_leading}
use Rattle.agreement.proofs.Frame.Quiet.{keeps_nothing}
use Rattle.agreement.proofs.Frame.Roles.{role_active}

-- a proposal
pub keeps_proposed : {S C O : Type 0} (rules : Rules S C O) (w : GroupWorld S C O) (h : History C) (n : ℕ) (r : ReplicaState S C) (c : C) →
    IsSoundWorld rules w h → slice_get w.nodes n ≡ Some r → r.machine ≡ replay rules (take r.committed r.log) →
    KeepsAdding rules w h n (λ b x. (b ≡ r.joined) × (x ≡ c)) (proposed rules r c)
keeps_proposed {S = S} {C = C} {O = O} rules w h n r c s stands ran = by_role (cases_Bool (is_active r.role))
  where
    by_room : is_active r.role ≡ true → (length r.log < max_places) ⊎ (max_places ≤ length r.log) → KeepsAdding rules w h n (λ b x. (b ≡ r.joined) × (x ≡ c)) (proposed rules r c)
    by_room e (inl room) =
        let t = s.nodes n r stands in let role = role_active r.role e in
        subst (λ (o : Outcome S C O). KeepsAdding rules w h n (λ b x. (b ≡ r.joined) × (x ≡ c)) o) (sym (proposed-adds rules r c e room))
        (keeps_added rules w h n r r c s stands (active_leading w h n r t role (t.active role)) refl refl refl refl (omega arith) ran)
    by_room e (inr full) = adds_less rules w h n _ (λ b x. (b ≡ r.joined) × (x ≡ c)) _ (λ b x e. absurd e) (keeps_nothing rules w h n r _ s stands (proposed-full rules r c e full))

    by_role : (is_active r.role ≡ true) ⊎ (is_active r.role ≡ false) → KeepsAdding rules w h n (λ b x. (b ≡ r.joined) × (x ≡ c)) (proposed rules r c)
    by_role (inl e) = by_room e (cases_lt (length r.log) max_places)
    by_role (inr e) = adds_less rules w h n _ (λ b x. (b ≡ r.joined) × (x ≡ c)) _ (λ b x e. absurd e) (keeps_nothing rules w h n r _ s stands (proposed-not_active rules r c e))
