-- StepGives.antt: what each step of a node gives are the outputs of the next places of its own log.
use Rattle.std.proofs.Common.{◌≡◌, ℕ, ◌<◌, ◌≤◌, ◌⊎◌, inl, inr, true, false, cond, [], ◌∷◌, ◌++◌, length, take, refl, ap, sym, ◌∙◌, subst, arith}
use Rattle.std.specs.Prelude.{nat_lt, nat_le, ◌&&◌, ◌==◌}
use Rattle.std.proofs.lemmas.Bool.{and_parts, cases_Bool, cases_lt}
use Rattle.std.proofs.lemmas.List.{take-append-le}
use Rattle.machine.specs.Machine.{Rules, replay}
use Rattle.agreement.specs.whole_logs.Application.{applied_to, outputs_between}
use Rattle.agreement.specs.whole_logs.Messages.{Body}
use Rattle.agreement.specs.whole_logs.Messages.Body.{NewBallot, Join, State, Install, Installed, Activate, Activated, Superseded, Append, Held, Commit}
use Rattle.agreement.specs.whole_logs.Activation.{on_activated}
use Rattle.agreement.specs.whole_logs.Protocol.{Input, received, replica_step}
use Rattle.agreement.specs.whole_logs.Protocol.Input.{Receives, Proposes, Ticks}
use Rattle.agreement.specs.whole_logs.Replica.{ReplicaState}
use Rattle.ballot_base.specs.Replica.{is_active, is_backup, is_installing, others, progress_at}
use Rattle.ballot_base.specs.declared.status.Role.TheVariants.{Active}
use Rattle.agreement.specs.whole_logs.StepOutcome.{Outcome, message_to_followed, nothing_done}
use Rattle.agreement.specs.whole_logs.Service.{added, commit, follows, leads, on_commit, on_held, proposed}
use Rattle.ballot_base.specs.Service.{least, max_places, raised}
use Rattle.ballot_base.proofs.AppliesInOrder.{replay_goes_on}
use Rattle.agreement.proofs.of_whole_logs.ChangeRows.{on_activated-adds, on_activated-stays}
use Rattle.agreement.proofs.of_whole_logs.StepRows.{added-is, proposed-adds, proposed-full, proposed-not_active}
use Rattle.agreement.specs.NodeOutputs.{gives_from}
use Rattle.agreement.specs.World.{outputs}
use Rattle.agreement.proofs.Effects.{outputs_of_messages}
use Rattle.agreement.proofs.Frame.Roles.{role_active, role_backup, role_installing}
use Rattle.agreement.proofs.Given.CommitGives.{CommitGives, commit_gives}
use Rattle.agreement.proofs.Given.RowsGive.{GivesNothing, new_ballot_gives, join_gives, state_gives, install_gives, installed_gives, superseded_gives, append_gives, tick_gives}
use Rattle.agreement.proofs.Starts.StaysActive.{StaysActive, active_new_ballot, active_join, active_state, active_install, active_installed, active_superseded, active_append}
use Rattle.agreement.proofs.Starts.StepActive.{ticked_stays}

-- what an outcome gives: nothing, or the outputs of the next places of its log
pub data Gives {S C O : Type 0} (rules : Rules S C O) (r : ReplicaState S C) (o : Outcome S C O) : Type 0 where
  gives_nothing : GivesNothing r o → StaysActive r o → Gives rules r o
  gives_idle : outputs o.effects ≡ [] → (o.state.role ≡ Active → ⊥) → Gives rules r o
  gives_next : o.state.role ≡ Active → gives_from r ≤ o.state.committed →
      outputs o.effects ≡ outputs (outputs_between rules o.state.log (gives_from r) o.state.committed) → Gives rules r o

-- from where a node gives, by its role
pub from_active : {S C : Type 0} (r : ReplicaState S C) → is_active r.role ≡ true → gives_from r ≡ r.committed
from_active r e = ap (λ b. cond b r.committed (length r.log)) e

pub from_other : {S C : Type 0} (r : ReplicaState S C) → is_active r.role ≡ false → gives_from r ≡ length r.log
from_other r e = ap (λ b. cond b r.committed (length r.log)) e

nothing_given : {S C O : Type 0} (rules : Rules S C O) (r : ReplicaState S C) → Gives rules r (nothing_done O r)
nothing_given rules r = gives_nothing (record { silent = refl; same = refl }) (λ f. (f, refl))

-- an outcome that commits from a replica that is active
committed_next : {S C O : Type 0} (rules : Rules S C O) (old r : ReplicaState S C) (o : Outcome S C O) → CommitGives rules r o → r.role ≡ Active →
    gives_from old ≡ r.committed → Gives rules old o
committed_next {S = S} {C = C} {O = O} rules old r o g active from =
    let up = g.rising in
    gives_next (g.role ∙ active) (omega (arith, up, from))
    (g.given ∙ ap (λ us. outputs (outputs_between rules us r.committed o.state.committed)) (sym g.log)
    ∙ ap (λ k. outputs (outputs_between rules o.state.log k o.state.committed)) (sym from))

-- a command that is added
added_gives : {S C O : Type 0} (rules : Rules S C O) (old r : ReplicaState S C) (c : C) → r.machine ≡ replay rules (take r.committed r.log) →
    r.committed ≤ length r.log → r.role ≡ Active → gives_from old ≡ r.committed → Gives rules old (added rules r c)
added_gives {S = S} {C = C} {O = O} rules old r c ran within active from =
    subst (λ (o : Outcome S C O). Gives rules old o) (sym (added-is rules r c))
    (committed_next rules old (record r { log = r.log ++ c ∷ [] }) _
    (commit_gives rules (record r { log = r.log ++ c ∷ [] }) (least (length (r.log ++ c ∷ [])) r.progress)
    (message_to_followed O r.id (Append r.joined (length r.log) c) r.progress)
    (outputs_of_messages r.id (Append r.joined (length r.log) c) r.progress)
    (ran ∙ ap (replay rules) (sym (take-append-le r.committed r.log (c ∷ []) within)))) active from)

-- a proposal
proposed_gives : {S C O : Type 0} (rules : Rules S C O) (r : ReplicaState S C) (c : C) → r.machine ≡ replay rules (take r.committed r.log) →
    r.committed ≤ length r.log → Gives rules r (proposed rules r c)
proposed_gives {S = S} {C = C} {O = O} rules r c ran within = by_role (cases_Bool (is_active r.role)) (cases_lt (length r.log) max_places)
  where
    by_role : (is_active r.role ≡ true) ⊎ (is_active r.role ≡ false) → (length r.log < max_places) ⊎ (max_places ≤ length r.log) →
        Gives rules r (proposed rules r c)
    by_role (inl a) (inl room) =
        subst (λ (o : Outcome S C O). Gives rules r o) (sym (proposed-adds rules r c a room))
        (added_gives rules r r c ran within (role_active r.role a) (from_active r a))
    by_role (inl a) (inr full) = subst (λ (o : Outcome S C O). Gives rules r o) (sym (proposed-full rules r c a full)) (nothing_given rules r)
    by_role (inr a) room = subst (λ (o : Outcome S C O). Gives rules r o) (sym (proposed-not_active rules r c a)) (nothing_given rules r)

-- Held
held_gives : {S C O : Type 0} (rules : Rules S C O) (r : ReplicaState S C) (from b held : ℕ) → r.machine ≡ replay rules (take r.committed r.log) →
    Gives rules r (on_held rules r from b held)
unfolding on_held commit
held_gives rules r from b held ran = by_condition (cases_Bool (leads r b))
  where
    by_condition : (leads r b ≡ true) ⊎ (leads r b ≡ false) → Gives rules r (on_held rules r from b held)
    by_condition (inl e) =
        let a = (and_parts (r.joined == b) (is_active r.role) e).1 in
        rw e (committed_next rules r (record r { progress = raised from held r.progress }) _
        (commit_gives rules (record r { progress = raised from held r.progress }) (least (length r.log) (raised from held r.progress)) [] refl ran)
        (role_active r.role a) (from_active r a))
    by_condition (inr e) = rw e (nothing_given rules r)

-- Commit
commit_gives_nothing : {S C O : Type 0} (rules : Rules S C O) (r : ReplicaState S C) (b held : ℕ) → Gives rules r (on_commit rules r b held)
unfolding on_commit
commit_gives_nothing rules r b held = by_condition (cases_Bool (follows r b && nat_le held (length r.log)))
  where
    by_condition : ((follows r b && nat_le held (length r.log)) ≡ true) ⊎ ((follows r b && nat_le held (length r.log)) ≡ false) →
        Gives rules r (on_commit rules r b held)
    by_condition (inl e) =
        let f = (and_parts (follows r b) (nat_le held (length r.log)) e).0 in
        let backup = role_backup r.role (and_parts (r.joined == b && r.held_in == b) (is_backup r.role) f).1 in
        rw e (gives_idle refl (λ active. cc))
    by_condition (inr e) = rw e (nothing_given rules r)

-- Activated
activated_gives : {S C O : Type 0} (rules : Rules S C O) (r : ReplicaState S C) (b : ℕ) → r.machine ≡ replay rules (take r.committed r.log) →
    r.committed ≤ length r.log → Gives rules r (on_activated rules r b)
activated_gives {S = S} {C = C} {O = O} rules r b ran within =
    by_condition (cases_Bool ((r.joined == b && is_installing r.role) && (nat_le (length r.lacking) 0 && nat_lt (length r.log) max_places)))
  where
    active : ReplicaState S C
    active = record (applied_to rules r (length r.log)) { role = Active; progress = progress_at (length r.log) (others r.id r.members) }

    by_condition : (((r.joined == b && is_installing r.role) && (nat_le (length r.lacking) 0 && nat_lt (length r.log) max_places)) ≡ true)
        ⊎ (((r.joined == b && is_installing r.role) && (nat_le (length r.lacking) 0 && nat_lt (length r.log) max_places)) ≡ false) →
        Gives rules r (on_activated rules r b)
    by_condition (inl e) =
        let p = (and_parts (r.joined == b && is_installing r.role) (nat_le (length r.lacking) 0 && nat_lt (length r.log) max_places) e).0 in
        let installing = role_installing r.role (and_parts (r.joined == b) (is_installing r.role) p).1 in
        subst (λ (o : Outcome S C O). Gives rules r o) (sym (on_activated-adds rules r b e))
        (added_gives rules r active (rules.start_of b) (replay_goes_on rules r.machine r.log r.committed (length r.log) within ran) (omega arith) refl
        (from_other r (ap is_active installing)))
    by_condition (inr e) = subst (λ (o : Outcome S C O). Gives rules r o) (sym (on_activated-stays rules r b e)) (nothing_given rules r)

-- a message
received_gives : {S C O : Type 0} (rules : Rules S C O) (r : ReplicaState S C) (from : ℕ) (body : Body C) →
    r.machine ≡ replay rules (take r.committed r.log) → r.committed ≤ length r.log → Gives rules r (received rules r from body)
received_gives {O = O} rules r from (NewBallot b members a old) ran within = gives_nothing (new_ballot_gives O r b members a old) (active_new_ballot O r b members a old)
received_gives {O = O} rules r from (Join b a) ran within = gives_nothing (join_gives O r from b a) (active_join O r from b a)
received_gives {O = O} rules r from (State b log) ran within = gives_nothing (state_gives O r b log) (active_state O r b log)
received_gives {O = O} rules r from (Install b log) ran within = gives_nothing (install_gives O r from b log) (active_install O r from b log)
received_gives {O = O} rules r from (Installed b held) ran within = gives_nothing (installed_gives O r from b) (active_installed O r from b)
received_gives rules r from (Activate b) ran within = nothing_given rules r
received_gives rules r from (Activated b) ran within = activated_gives rules r b ran within
received_gives {O = O} rules r from (Superseded b) ran within = gives_nothing (superseded_gives O r b) (active_superseded O r b)
received_gives {O = O} rules r from (Append b place c) ran within = gives_nothing (append_gives O r from b place c) (active_append O r from b place c)
received_gives rules r from (Held b held) ran within = held_gives rules r from b held ran
received_gives rules r from (Commit b held) ran within = commit_gives_nothing rules r b held

-- a step
pub step_gives : {S C O : Type 0} (rules : Rules S C O) (r : ReplicaState S C) (input : Input C) → r.machine ≡ replay rules (take r.committed r.log) →
    r.committed ≤ length r.log → Gives rules r (replica_step rules r input)
step_gives rules r (Receives message) ran within = received_gives rules r message.from message.body ran within
step_gives rules r (Proposes c) ran within = proposed_gives rules r c ran within
step_gives {O = O} rules r Ticks ran within = gives_nothing (tick_gives O r r.role) (ticked_stays O r r.role)
