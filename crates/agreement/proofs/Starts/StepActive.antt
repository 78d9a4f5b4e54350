-- StepActive.antt: after a step a node that is active was active before, or has just put the start
-- of its ballot after the log that it installed.
use Rattle.std.proofs.Common.{◌≡◌, ℕ, ◌<◌, ◌≤◌, ◌⊎◌, inl, inr, true, false, [], ◌∷◌, ◌++◌, length, refl, ap, sym, ◌∙◌, subst}
use Rattle.std.specs.Prelude.{nat_lt, nat_le, ◌&&◌, ◌==◌}
use Rattle.std.proofs.lemmas.Bool.{cases_Bool, cases_lt, and_parts}
use Rattle.machine.specs.Machine.{Rules}
use Rattle.agreement.specs.whole_logs.Application.{applied_to}
use Rattle.agreement.specs.whole_logs.Messages.{Body}
use Rattle.agreement.specs.whole_logs.Messages.Body.{NewBallot, Join, State, Install, Installed, Activate, Activated, Superseded, Append, Held, Commit}
use Rattle.ballot_base.specs.declared.status.Role.{Role}
use Rattle.ballot_base.specs.declared.status.Role.TheVariants.{Backup, Fetching, Installing, Active}
use Rattle.agreement.specs.whole_logs.Protocol.{Input, received, ticked, replica_step}
use Rattle.agreement.specs.whole_logs.Protocol.Input.{Receives, Proposes, Ticks}
use Rattle.agreement.specs.whole_logs.Replica.{ReplicaState}
use Rattle.ballot_base.specs.Replica.{is_active, is_installing, others, progress_at}
use Rattle.agreement.specs.whole_logs.StepOutcome.{Outcome}
use Rattle.ballot_base.specs.Service.{max_places}
use Rattle.agreement.specs.whole_logs.Service.{proposed, on_tick_active}
use Rattle.agreement.proofs.of_whole_logs.StepRows.{proposed-adds, proposed-not_active, proposed-full}
use Rattle.agreement.specs.whole_logs.Activation.{on_activated}
use Rattle.agreement.proofs.Frame.Roles.{role_active, role_installing}
use Rattle.agreement.proofs.of_whole_logs.ChangeRows.{on_activated-stays, on_activated-adds}
use Rattle.agreement.proofs.Starts.StaysActive.{StaysActive, active_new_ballot, active_join, active_state, active_install, active_installed, active_superseded, active_append, active_held, active_commit, added_keeps}

-- a node that has just begun its ballot
pub record Begins {S C O : Type 0} (r : ReplicaState S C) (o : Outcome S C O) : Type 0 where
  pub command : C
  pub role : r.role ≡ Installing
  pub joined : o.state.joined ≡ r.joined
  pub log : o.state.log ≡ r.log ++ command ∷ []

-- Activated
activated_begins : {S C O : Type 0} (rules : Rules S C O) (r : ReplicaState S C) (b : ℕ) →
    StaysActive r (on_activated rules r b) ⊎ Begins r (on_activated rules r b)
activated_begins {S = S} {C = C} {O = O} rules r b =
    by_condition (cases_Bool ((r.joined == b && is_installing r.role) && (nat_le (length r.lacking) 0 && nat_lt (length r.log) max_places)))
  where
    by_condition : (((r.joined == b && is_installing r.role) && (nat_le (length r.lacking) 0 && nat_lt (length r.log) max_places)) ≡ true)
        ⊎ (((r.joined == b && is_installing r.role) && (nat_le (length r.lacking) 0 && nat_lt (length r.log) max_places)) ≡ false) →
        StaysActive r (on_activated rules r b) ⊎ Begins r (on_activated rules r b)
    by_condition (inl e) =
        let p = and_parts (r.joined == b && is_installing r.role) (nat_le (length r.lacking) 0 && nat_lt (length r.log) max_places) e in
        let a = and_parts (r.joined == b) (is_installing r.role) p.0 in
        let f = on_activated-adds rules r b e in
        let k = added_keeps rules (record (applied_to rules r (length r.log)) { role = Active; progress = progress_at (length r.log) (others r.id r.members) }) (rules.start_of b) in
        inr (record {
          command = rules.start_of b;
          role = role_installing r.role a.1;
          joined = ap (λ (o : Outcome S C O). o.state.joined) f ∙ k.1;
          log = ap (λ (o : Outcome S C O). o.state.log) f ∙ k.2;
        })
    by_condition (inr e) =
        inl (subst (λ (o : Outcome S C O). StaysActive r o) (sym (on_activated-stays rules r b e)) (λ f. (f, refl)))

-- a message
received_begins : {S C O : Type 0} (rules : Rules S C O) (r : ReplicaState S C) (from : ℕ) (body : Body C) →
    StaysActive r (received rules r from body) ⊎ Begins r (received rules r from body)
received_begins {O = O} rules r from (NewBallot b members a old) = inl (active_new_ballot O r b members a old)
received_begins {O = O} rules r from (Join b a) = inl (active_join O r from b a)
received_begins {O = O} rules r from (State b log) = inl (active_state O r b log)
received_begins {O = O} rules r from (Install b log) = inl (active_install O r from b log)
received_begins {O = O} rules r from (Installed b held) = inl (active_installed O r from b)
received_begins rules r from (Activate b) = inl (λ f. (f, refl))
received_begins rules r from (Activated b) = activated_begins rules r b
received_begins {O = O} rules r from (Superseded b) = inl (active_superseded O r b)
received_begins {O = O} rules r from (Append b place c) = inl (active_append O r from b place c)
received_begins rules r from (Held b held) = inl (active_held rules r from b held)
received_begins {O = O} rules r from (Commit b held) = inl (active_commit rules r b held)

-- a tick
pub ticked_stays : {S C : Type 0} (O : Type 0) (r : ReplicaState S C) (role : Role) → StaysActive r (ticked O r role)
unfolding on_tick_active
ticked_stays O r Backup f = (f, refl)
ticked_stays O r Fetching f = (f, refl)
ticked_stays O r Installing f = (f, refl)
ticked_stays O r Active f = (f, refl)

-- a proposal
proposed_stays : {S C O : Type 0} (rules : Rules S C O) (r : ReplicaState S C) (c : C) → StaysActive r (proposed rules r c)
proposed_stays {S = S} {C = C} {O = O} rules r c = by_role (cases_Bool (is_active r.role)) (cases_lt (length r.log) max_places)
  where
    by_role : (is_active r.role ≡ true) ⊎ (is_active r.role ≡ false) → (length r.log < max_places) ⊎ (max_places ≤ length r.log) →
        StaysActive r (proposed rules r c)
    by_role (inl a) (inl room) = subst (λ (o : Outcome S C O). StaysActive r o) (sym (proposed-adds rules r c a room))
        (λ f. (role_active r.role a, (added_keeps rules r c).1))
    by_role (inl a) (inr full) = subst (λ (o : Outcome S C O). StaysActive r o) (sym (proposed-full rules r c a full)) (λ f. (f, refl))
    by_role (inr a) room = subst (λ (o : Outcome S C O). StaysActive r o) (sym (proposed-not_active rules r c a)) (λ f. (f, refl))

-- a step
pub step_begins : {S C O : Type 0} (rules : Rules S C O) (r : ReplicaState S C) (input : Input C) →
    StaysActive r (replica_step rules r input) ⊎ Begins r (replica_step rules r input)
step_begins rules r (Receives message) = received_begins rules r message.from message.body
step_begins rules r (Proposes c) = inl (proposed_stays rules r c)
step_begins {O = O} rules r Ticks = inl (ticked_stays O r r.role)
