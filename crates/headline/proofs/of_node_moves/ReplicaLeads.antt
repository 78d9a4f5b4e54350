-- What a step of a replica does to the ballot that it leads: it stays the same, or the replica
-- leads none.
use Rattle.std.proofs.Common.{◌≡◌, ◌⊎◌, inl, inr, ℕ, Bool, true, false, if◌then◌else◌, Option, Some, None, List, [], ◌∷◌, length, refl, sym, subst}
use Rattle.std.specs.Prelude.{nat_lt, nat_le, ◌&&◌, ◌==◌}
use Rattle.std.specs.List.{list_any}
use Rattle.std.proofs.lemmas.Bool.{cases_Bool}
use Rattle.ballot_base.specs.Application.{applied_to}
use Rattle.ballot_base.specs.declared.message.Body.{Body}
use Rattle.ballot_base.specs.declared.message.Body.TheVariants.{NewBallot, Join, State, Install, Installed, Activate, Activated, Superseded, Append, Held, Commit}
use Rattle.ballot_base.specs.Logs.{Log, places}
use Rattle.ballot_base.specs.TakenLog.{taken}
use Rattle.ballot_base.specs.Transfer.{answers_installed, installs_taken, lacks, waits_for, on_new_ballot, on_join, on_install, on_state}
use Rattle.ballot_base.specs.Activation.{on_superseded, on_installed, on_activated}
use Rattle.machine.specs.Machine.{Rules}
use Rattle.ballot_base.specs.Protocol.{Input, received, ticked, replica_step}
use Rattle.ballot_base.specs.Protocol.Input.{Receives, Proposes, Ticks}
use Rattle.ballot_base.specs.Replica.{ReplicaState, is_active, is_installing, others, progress_at}
use Rattle.ballot_base.specs.declared.status.Role.{Role}
use Rattle.ballot_base.specs.declared.status.Role.TheVariants.{Backup, Fetching, Installing, Active}
use Rattle.ballot_base.specs.StepOutcome.{Outcome, message_to, nothing_done}
use Rattle.ballot_base.specs.Service.{commit, follows, leads, least, max_places, on_append, on_commit, on_held, on_tick_active, raised}
use Rattle.ballot_base.proofs.ChangeRows.{on_activated-adds, on_activated-stays}
use Rattle.headline.proofs.of_node_moves.ReplicaStays.{added_same, commit_same, proposed_same}

-- it stays in its ballot, or does not lead
abbrev pub StaysOr : {S C : Type 0} → ReplicaState S C → ReplicaState S C → Type 0
StaysOr r s = (s.joined ≡ r.joined) ⊎ (is_active s.role ≡ false)

new_ballot_stays : {S C : Type 0} (O : Type 0) (r : ReplicaState S C) (b : ℕ) (members : List ℕ) (a : ℕ) (old : List ℕ) → StaysOr r (on_new_ballot O r b members a old).state
unfolding on_new_ballot
new_ballot_stays O r b members a old = by (cases_Bool (nat_lt r.joined b))
  where
    by : (nat_lt r.joined b ≡ true) ⊎ (nat_lt r.joined b ≡ false) → StaysOr r (on_new_ballot O r b members a old).state
    by (inl e) = rw e (inr refl)
    by (inr e) = rw e (inl refl)

join_stays : {S C : Type 0} (O : Type 0) (r : ReplicaState S C) (from b a : ℕ) → StaysOr r (on_join O r from b a).state
unfolding on_join
join_stays O r from b a = by (cases_Bool (nat_le r.joined b && nat_le a r.held_in)) (cases_Bool (nat_lt r.joined b))
  where
    by : ((nat_le r.joined b && nat_le a r.held_in) ≡ true) ⊎ ((nat_le r.joined b && nat_le a r.held_in) ≡ false) → (nat_lt r.joined b ≡ true) ⊎ (nat_lt r.joined b ≡ false)
        → StaysOr r (on_join O r from b a).state
    by (inl e) (inl f) = rw (e, f) (inr refl)
    by (inl e) (inr f) = rw (e, f) (inl refl)
    by (inr e) f = rw e (inl refl)

state_stays : {S C O : Type 0} (rules : Rules S C O) (r : ReplicaState S C) (b : ℕ) (log : Log C) → StaysOr r (on_state rules r b log).state
unfolding on_state
state_stays {S = S} {C = C} {O = O} rules r b log = by (waits_for r b (places log)) (taken rules r log)
  where
    by : (waits : Bool) (t : Option (ReplicaState S C)) → StaysOr r (let o : Outcome S C O = if waits then installs_taken O r b t else nothing_done O r in o).state
    by false t = inl refl
    by true None = inl refl
    by true (Some took) = inr refl

install_stays : {S C O : Type 0} (rules : Rules S C O) (r : ReplicaState S C) (from b : ℕ) (log : Log C) → StaysOr r (on_install rules r from b log).state
unfolding on_install
install_stays {S = S} {C = C} {O = O} rules r from b log = by (lacks r b (places log)) (taken rules r log) (r.joined == b && r.held_in == b)
  where
    by : (lacking : Bool) (t : Option (ReplicaState S C)) (holds : Bool) →
        StaysOr r (let o : Outcome S C O = if lacking then answers_installed O r from b (places log) t
        else if holds then record { state = r; effects = message_to O r.id (Installed b (places log)) from ∷ [] } else nothing_done O r in o).state
    by true None holds = inl refl
    by true (Some took) holds = inr refl
    by false t true = inl refl
    by false t false = inl refl

installed_stays : {S C : Type 0} (O : Type 0) (r : ReplicaState S C) (from b : ℕ) → StaysOr r (on_installed O r from b).state
unfolding on_installed
installed_stays O r from b = by (cases_Bool ((r.joined == b && is_installing r.role) && list_any (λ member. member == from) r.lacking))
  where
    by : (((r.joined == b && is_installing r.role) && list_any (λ member. member == from) r.lacking) ≡ true)
        ⊎ (((r.joined == b && is_installing r.role) && list_any (λ member. member == from) r.lacking) ≡ false) → StaysOr r (on_installed O r from b).state
    by (inl e) = rw e (inl refl)
    by (inr e) = rw e (inl refl)

superseded_stays : {S C : Type 0} (O : Type 0) (r : ReplicaState S C) (b : ℕ) → StaysOr r (on_superseded O r b).state
unfolding on_superseded
superseded_stays O r b = by (cases_Bool (r.joined == b && is_installing r.role))
  where
    by : ((r.joined == b && is_installing r.role) ≡ true) ⊎ ((r.joined == b && is_installing r.role) ≡ false) → StaysOr r (on_superseded O r b).state
    by (inl e) = rw e (inl refl)
    by (inr e) = rw e (inl refl)

append_stays : {S C : Type 0} (O : Type 0) (r : ReplicaState S C) (from b place : ℕ) (c : C) → StaysOr r (on_append O r from b place c).state
unfolding on_append
append_stays O r from b place c = by (cases_Bool (follows r b && nat_le place (places r.log)))
  where
    by : ((follows r b && nat_le place (places r.log)) ≡ true) ⊎ ((follows r b && nat_le place (places r.log)) ≡ false) → StaysOr r (on_append O r from b place c).state
    by (inl e) = rw e (inl refl)
    by (inr e) = rw e (inl refl)

held_stays : {S C O : Type 0} (rules : Rules S C O) (r : ReplicaState S C) (from b held : ℕ) → StaysOr r (on_held rules r from b held).state
unfolding on_held commit
held_stays rules r from b held = by (cases_Bool (leads r b))
  where
    by : (leads r b ≡ true) ⊎ (leads r b ≡ false) → StaysOr r (on_held rules r from b held).state
    by (inl e) =
        rw e (inl (commit_same rules (record r { progress = raised from held r.progress }) (least (places r.log) (raised from held r.progress))).joined)
    by (inr e) = rw e (inl refl)

commit_stays : {S C O : Type 0} (rules : Rules S C O) (r : ReplicaState S C) (b held : ℕ) → StaysOr r (on_commit rules r b held).state
unfolding on_commit
commit_stays rules r b held = by (cases_Bool (follows r b && nat_le held (places r.log)))
  where
    by : ((follows r b && nat_le held (places r.log)) ≡ true) ⊎ ((follows r b && nat_le held (places r.log)) ≡ false) → StaysOr r (on_commit rules r b held).state
    by (inl e) = rw e (inl refl)
    by (inr e) = rw e (inl refl)

activated_stays : {S C O : Type 0} (rules : Rules S C O) (r : ReplicaState S C) (b : ℕ) → StaysOr r (on_activated rules r b).state
activated_stays {S = S} {C = C} {O = O} rules r b =
    by (cases_Bool ((r.joined == b && is_installing r.role) && (nat_le (length r.lacking) 0 && nat_lt (places r.log) max_places)))
  where
    by : (((r.joined == b && is_installing r.role) && (nat_le (length r.lacking) 0 && nat_lt (places r.log) max_places)) ≡ true)
        ⊎ (((r.joined == b && is_installing r.role) && (nat_le (length r.lacking) 0 && nat_lt (places r.log) max_places)) ≡ false) → StaysOr r (on_activated rules r b).state
    by (inl e) =
        subst (λ (o : Outcome S C O). StaysOr r o.state) (sym (on_activated-adds rules r b e))
        (inl (added_same rules (record (applied_to rules r (places r.log)) { role = Active; progress = progress_at (places r.log) (others r.id r.members) })
        (rules.start_of b)).joined)
    by (inr e) = subst (λ (o : Outcome S C O). StaysOr r o.state) (sym (on_activated-stays rules r b e)) (inl refl)

-- ---- a step

received_stays : {S C O : Type 0} (rules : Rules S C O) (r : ReplicaState S C) (from : ℕ) (body : Body C) → StaysOr r (received rules r from body).state
received_stays {O = O} rules r from (NewBallot b members a old) = new_ballot_stays O r b members a old
received_stays {O = O} rules r from (Join b a) = join_stays O r from b a
received_stays rules r from (State b log) = state_stays rules r b log
received_stays rules r from (Install b log) = install_stays rules r from b log
received_stays {O = O} rules r from (Installed b held) = installed_stays O r from b
received_stays rules r from (Activate b) = inl refl
received_stays rules r from (Activated b) = activated_stays rules r b
received_stays {O = O} rules r from (Superseded b) = superseded_stays O r b
received_stays {O = O} rules r from (Append b place c) = append_stays O r from b place c
received_stays rules r from (Held b held) = held_stays rules r from b held
received_stays rules r from (Commit b held) = commit_stays rules r b held

ticked_stays : {S C : Type 0} (O : Type 0) (r : ReplicaState S C) (role : Role) → StaysOr r (ticked O r role).state
unfolding on_tick_active
ticked_stays O r Backup = inl refl
ticked_stays O r Fetching = inl refl
ticked_stays O r Installing = inl refl
ticked_stays O r Active = inl refl

pub step_stays : {S C O : Type 0} (rules : Rules S C O) (r : ReplicaState S C) (input : Input C) → StaysOr r (replica_step rules r input).state
step_stays rules r (Receives message) = received_stays rules r message.from message.body
step_stays rules r (Proposes c) = inl (proposed_same rules r c).joined
step_stays {O = O} rules r Ticks = ticked_stays O r r.role
