-- StepApplies.antt: each row of the protocol applies places in order, from where its machine is.
use Rattle.std.proofs.Common.{◌≡◌, ℕ, ◌<◌, ◌≤◌, ◌⊎◌, inl, inr, true, false, max, length, refl, sym, subst, arith}
use Rattle.std.specs.Prelude.{nat_lt, nat_le, ◌&&◌, ◌==◌}
use Rattle.std.proofs.lemmas.Bool.{cases_Bool, cases_lt}
use Rattle.machine.specs.Machine.{Rules}
use Rattle.agreement.specs.whole_logs.Application.{applied_to}
use Rattle.agreement.specs.whole_logs.Activation.{on_activated}
use Rattle.agreement.specs.whole_logs.Messages.{Body}
use Rattle.agreement.specs.whole_logs.Messages.Body.{NewBallot, Join, State, Install, Installed, Activate, Activated, Superseded, Append, Held, Commit}
use Rattle.ballot_base.specs.declared.status.Role.{Role}
use Rattle.ballot_base.specs.declared.status.Role.TheVariants.{Backup, Fetching, Installing, Active}
use Rattle.agreement.specs.whole_logs.Protocol.{Input, received, ticked, replica_step}
use Rattle.agreement.specs.whole_logs.Protocol.Input.{Receives, Proposes, Ticks}
use Rattle.agreement.specs.whole_logs.Replica.{ReplicaState}
use Rattle.ballot_base.specs.Replica.{is_installing, is_active, others, progress_at}
use Rattle.agreement.specs.whole_logs.StepOutcome.{Outcome}
use Rattle.ballot_base.specs.Service.{max_places, least, raised}
use Rattle.agreement.specs.whole_logs.Service.{proposed, follows, leads, commit, on_append, on_held, on_commit, on_tick_active}
use Rattle.agreement.proofs.of_whole_logs.StepRows.{proposed-adds, proposed-full, proposed-not_active}
use Rattle.agreement.proofs.Machines.Applies.{Applies, applies_nothing, applies_to, commit_applies, added_applies, added_after}
use Rattle.agreement.proofs.of_whole_logs.ChangeRows.{on_activated-stays, on_activated-adds}
use Rattle.agreement.proofs.Starts.StaysActive.{added_keeps}
use Rattle.agreement.proofs.Machines.ChangingApplies.{new_ballot_applies, join_applies, state_applies, install_applies, installed_applies, superseded_applies}

-- Append
append_applies : {S C O : Type 0} (rules : Rules S C O) (r : ReplicaState S C) (from b place : ℕ) (c : C) →
    Applies rules r (on_append O r from b place c).state
unfolding on_append
append_applies {O = O} rules r from b place c = by_condition (cases_Bool (follows r b && nat_le place (length r.log)))
  where
    by_condition : ((follows r b && nat_le place (length r.log)) ≡ true) ⊎ ((follows r b && nat_le place (length r.log)) ≡ false) →
        Applies rules r (on_append O r from b place c).state
    by_condition (inl e) = rw e (applies_nothing rules r _ refl refl)
    by_condition (inr e) = rw e (applies_nothing rules r r refl refl)

-- Held
held_applies : {S C O : Type 0} (rules : Rules S C O) (r : ReplicaState S C) (from b held : ℕ) → Applies rules r (on_held rules r from b held).state
unfolding on_held commit
held_applies rules r from b held = by_condition (cases_Bool (leads r b))
  where
    by_condition : (leads r b ≡ true) ⊎ (leads r b ≡ false) → Applies rules r (on_held rules r from b held).state
    by_condition (inl e) =
        rw e (commit_applies rules r (record r { progress = raised from held r.progress }) (least (length r.log) (raised from held r.progress)) refl refl)
    by_condition (inr e) = rw e (applies_nothing rules r r refl refl)

-- Commit
commit_is_applied : {S C O : Type 0} (rules : Rules S C O) (r : ReplicaState S C) (b held : ℕ) → Applies rules r (on_commit rules r b held).state
unfolding on_commit
commit_is_applied rules r b held = by_condition (cases_Bool (follows r b && nat_le held (length r.log)))
  where
    by_condition : ((follows r b && nat_le held (length r.log)) ≡ true) ⊎ ((follows r b && nat_le held (length r.log)) ≡ false) →
        Applies rules r (on_commit rules r b held).state
    by_condition (inl e) = rw e (applies_to rules r r (max r.committed held) refl refl (omega arith))
    by_condition (inr e) = rw e (applies_nothing rules r r refl refl)

-- Activated
activated_applies : {S C O : Type 0} (rules : Rules S C O) (r : ReplicaState S C) (b : ℕ) → r.committed ≤ length r.log →
    Applies rules r (on_activated rules r b).state
activated_applies {S = S} {C = C} {O = O} rules r b within =
    by_condition (cases_Bool ((r.joined == b && is_installing r.role) && (nat_le (length r.lacking) 0 && nat_lt (length r.log) max_places)))
  where
    active : ReplicaState S C
    active = record (applied_to rules r (length r.log)) { role = Active; progress = progress_at (length r.log) (others r.id r.members) }

    first : Applies rules r active
    first = let a = applies_to rules r r (length r.log) refl refl within in record { up = a.up; machine = a.machine }

    by_condition : (((r.joined == b && is_installing r.role) && (nat_le (length r.lacking) 0 && nat_lt (length r.log) max_places)) ≡ true)
        ⊎ (((r.joined == b && is_installing r.role) && (nat_le (length r.lacking) 0 && nat_lt (length r.log) max_places)) ≡ false) →
        Applies rules r (on_activated rules r b).state
    by_condition (inl e) =
        subst (λ (o : Outcome S C O). Applies rules r o.state) (sym (on_activated-adds rules r b e))
        (added_after rules r active _ (rules.start_of b) within refl refl first (added_keeps rules active (rules.start_of b)).2
        (added_applies rules active (rules.start_of b)))
    by_condition (inr e) =
        subst (λ (o : Outcome S C O). Applies rules r o.state) (sym (on_activated-stays rules r b e)) (applies_nothing rules r r refl refl)

-- a message
received_applies : {S C O : Type 0} (rules : Rules S C O) (r : ReplicaState S C) (from : ℕ) (body : Body C) → r.committed ≤ length r.log →
    Applies rules r (received rules r from body).state
received_applies rules r from (NewBallot b members a old) within = new_ballot_applies rules r b members a old
received_applies rules r from (Join b a) within = join_applies rules r from b a
received_applies rules r from (State b log) within = state_applies rules r b log
received_applies rules r from (Install b log) within = install_applies rules r from b log
received_applies rules r from (Installed b held) within = installed_applies rules r from b
received_applies rules r from (Activate b) within = applies_nothing rules r r refl refl
received_applies rules r from (Activated b) within = activated_applies rules r b within
received_applies rules r from (Superseded b) within = superseded_applies rules r b
received_applies rules r from (Append b place c) within = append_applies rules r from b place c
received_applies rules r from (Held b held) within = held_applies rules r from b held
received_applies rules r from (Commit b held) within = commit_is_applied rules r b held

-- a tick
ticked_applies : {S C O : Type 0} (rules : Rules S C O) (r : ReplicaState S C) (role : Role) → Applies rules r (ticked O r role).state
unfolding on_tick_active
ticked_applies rules r Backup = applies_nothing rules r r refl refl
ticked_applies rules r Fetching = applies_nothing rules r r refl refl
ticked_applies rules r Installing = applies_nothing rules r r refl refl
ticked_applies rules r Active = applies_nothing rules r r refl refl

-- a proposal
proposed_applies : {S C O : Type 0} (rules : Rules S C O) (r : ReplicaState S C) (c : C) → Applies rules r (proposed rules r c).state
proposed_applies {S = S} {C = C} {O = O} rules r c = by_role (cases_Bool (is_active r.role)) (cases_lt (length r.log) max_places)
  where
    by_role : (is_active r.role ≡ true) ⊎ (is_active r.role ≡ false) → (length r.log < max_places) ⊎ (max_places ≤ length r.log) →
        Applies rules r (proposed rules r c).state
    by_role (inl a) (inl room) = subst (λ (o : Outcome S C O). Applies rules r o.state) (sym (proposed-adds rules r c a room)) (added_applies rules r c)
    by_role (inl a) (inr full) = subst (λ (o : Outcome S C O). Applies rules r o.state) (sym (proposed-full rules r c a full)) (applies_nothing rules r r refl refl)
    by_role (inr a) room = subst (λ (o : Outcome S C O). Applies rules r o.state) (sym (proposed-not_active rules r c a)) (applies_nothing rules r r refl refl)

-- a step
pub step_applies : {S C O : Type 0} (rules : Rules S C O) (r : ReplicaState S C) (input : Input C) → r.committed ≤ length r.log →
    Applies rules r (replica_step rules r input).state
step_applies rules r (Receives message) within = received_applies rules r message.from message.body within
step_applies rules r (Proposes c) within = proposed_applies rules r c
step_applies rules r Ticks within = ticked_applies rules r r.role
