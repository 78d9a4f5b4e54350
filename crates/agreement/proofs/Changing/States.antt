-- States.antt: a State that comes.
use Rattle.std.proofs.Common.{◌≡◌, ℕ, ◌+◌, ◌⊎◌, inl, inr, true, false, List, length, Some, sym, subst}
use Rattle.std.specs.Prelude.{slice_get, nat_le, ◌&&◌, ◌==◌}
use Rattle.std.proofs.lemmas.Bool.{cases_Bool, and_parts, leb-true, eqb-true}
use Rattle.machine.specs.Machine.{Rules}
use Rattle.agreement.specs.whole_logs.Messages.Body.{State}
use Rattle.ballot_base.specs.declared.status.Role.TheVariants.{Installing}
use Rattle.agreement.specs.whole_logs.Replica.{ReplicaState}
use Rattle.ballot_base.specs.Replica.{is_fetching, others}
use Rattle.agreement.specs.whole_logs.StepOutcome.{Outcome}
use Rattle.agreement.specs.whole_logs.Transfer.{install_effects, on_state}
use Rattle.agreement.specs.World.{GroupWorld}
use Rattle.lists.specs.Lists.{In}
use Rattle.agreement.specs.Inside.Ballots.{History}
use Rattle.agreement.specs.Inside.Keeps.{KeepsSoundness}
use Rattle.agreement.specs.Inside.Sound.{IsSoundWorld}
use Rattle.agreement.proofs.Frame.Quiet.{keeps_nothing}
use Rattle.agreement.proofs.Frame.Roles.{role_fetching}
use Rattle.agreement.proofs.of_whole_logs.ChangeRows.{on_state-stays, on_state-takes}
use Rattle.agreement.proofs.Changing.StateHears.{state_heard}
use Rattle.agreement.proofs.Changing.StateTaken.{state_taken}

-- a State that comes
pub keeps_state : {S C O : Type 0} (rules : Rules S C O) (w : GroupWorld S C O) (h : History C) (n : ℕ) (r : ReplicaState S C)
    (from b : ℕ) (xs : List C) → IsSoundWorld rules w h → slice_get w.nodes n ≡ Some r →
    In (n + 1, record { from = from; body = State b xs }) w.sent → KeepsSoundness rules w h n (on_state O r b xs)
keeps_state {S = S} {C = C} {O = O} rules w h n r from b xs s stands sent =
    by_condition (cases_Bool (r.joined == b && (is_fetching r.role && nat_le r.committed (length xs))))
  where
    by_condition : ((r.joined == b && (is_fetching r.role && nat_le r.committed (length xs))) ≡ true)
        ⊎ ((r.joined == b && (is_fetching r.role && nat_le r.committed (length xs))) ≡ false) →
        KeepsSoundness rules w h n (on_state O r b xs)
    by_condition (inl e) =
        let p = and_parts (r.joined == b) (is_fetching r.role && nat_le r.committed (length xs)) e in
        let z = and_parts (is_fetching r.role) (nat_le r.committed (length xs)) p.1 in
        let same = eqb-true r.joined b p.0 in
        subst (λ (o : Outcome S C O). KeepsSoundness rules w h n o) (sym (on_state-takes O r b xs e))
        (subst (λ c. KeepsSoundness rules w h n (record {
          state = record r { held_in = c; log = xs; role = Installing; lacking = others r.id r.members };
          effects = install_effects O (record r { held_in = c; log = xs; role = Installing; lacking = others r.id r.members }) (others r.id r.members);
        })) same
        (state_taken rules w h n r xs s stands
        (state_heard w h n r from b xs same ((s.nodes n r stands).fetching (role_fetching r.role z.0)) (s.said (n + 1) _ sent))
        (leb-true r.committed (length xs) z.1)))
    by_condition (inr e) = keeps_nothing rules w h n r _ s stands (on_state-stays O r b xs e)
