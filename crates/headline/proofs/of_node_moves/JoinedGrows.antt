-- A replica never goes back to an earlier ballot.
use Rattle.std.proofs.Common.{◌≡◌, ◌≤◌, ◌⊎◌, inl, inr, ℕ, Bool, true, false, ◌==◌, ◌&&◌, ◌||◌, nat_lt, nat_le, if◌then◌else◌, Option, Some, None, length, List, refl, arith}
use Rattle.std.specs.List.{list_any}
use Rattle.std.proofs.lemmas.Bool.{ltb-true, eqb-true, and_parts, or_cases}
use Rattle.machine.specs.Machine.{Rules}
use Rattle.ballot_base.specs.Logs.{Log, places, pushed}
use Rattle.ballot_base.specs.TakenLog.{read_into, taken, with_places}
use Rattle.ballot_base.specs.Transfer.{answers_installed, installs_taken, lacks, waits_for, on_new_ballot, on_join, on_state, on_install}
use Rattle.ballot_base.specs.Activation.{on_installed, on_activated, on_superseded}
use Rattle.ballot_base.specs.declared.message.Body.{Body}
use Rattle.ballot_base.specs.declared.message.Body.TheVariants.{NewBallot, Join, State, Install, Installed, Activate, Activated, Superseded, Append, Held, Commit}
use Rattle.ballot_base.specs.declared.status.Role.{Role}
use Rattle.ballot_base.specs.declared.status.Role.TheVariants.{Backup, Fetching, Installing, Active}
use Rattle.ballot_base.specs.Protocol.{Input, received, ticked, replica_step}
use Rattle.ballot_base.specs.Protocol.Input.{Receives, Proposes, Ticks}
use Rattle.ballot_base.specs.Replica.{ReplicaState, is_active, is_installing}
use Rattle.ballot_base.specs.StepOutcome.{Outcome, nothing_done}
use Rattle.ballot_base.specs.Service.{max_places, least, follows, leads, commit_at, commit, added, proposed, on_append, on_held, on_commit, on_tick_active}
use Rattle.headline.proofs.of_node_moves.NamesInOrder.{same_le}

abbrev pub Up : {S C O : Type 0} → ReplicaState S C → Outcome S C O → Type 0
Up r o = r.joined ≤ o.state.joined

-- whichever of two things is done
pub up_if : {S C O : Type 0} (r : ReplicaState S C) (b : Bool) (x y : Outcome S C O) → (b ≡ true → Up r x) → (b ≡ false → Up r y) → Up r (if b then x else y)
up_if r true x y p q = p refl
up_if r false x y p q = q refl

pub up_nothing : {S C : Type 0} (O : Type 0) (r : ReplicaState S C) → Up r (nothing_done O r)
up_nothing O r = same_le r.joined

-- ---- between ballots

up_new_ballot : {S C : Type 0} (O : Type 0) (r : ReplicaState S C) (ballot : ℕ) (members : List ℕ) (previous : ℕ) (previous_members : List ℕ)
    → Up r (on_new_ballot O r ballot members previous previous_members)
unfolding on_new_ballot
up_new_ballot O r ballot members previous previous_members =
    up_if r (nat_lt r.joined ballot) _ (nothing_done O r) (λ e. let less = ltb-true r.joined ballot e in omega (arith, less)) (λ e. up_nothing O r)

up_join : {S C : Type 0} (O : Type 0) (r : ReplicaState S C) (from ballot previous : ℕ) → Up r (on_join O r from ballot previous)
unfolding on_join
up_join {S = S} {C = C} O r from ballot previous =
    up_if r (nat_le r.joined ballot && nat_le previous r.held_in) _ (nothing_done O r) (λ e. joins (nat_lt r.joined ballot) refl) (λ e. up_nothing O r)
  where
    joins : (b : Bool) → nat_lt r.joined ballot ≡ b
        → r.joined ≤ (let s : ReplicaState S C = if b then record r { joined = ballot; role = Backup } else r in s).joined
    joins true e = let less = ltb-true r.joined ballot e in omega (arith, less)
    joins false e = same_le r.joined

-- a log that is taken
up_handed : {S C O : Type 0} (rules : Rules S C O) (r : ReplicaState S C) (ballot : ℕ) (log : Log C) → Up {O = O} r (installs_taken O r ballot (taken rules r log))
up_handed {S = S} {C = C} {O = O} rules r ballot log = by (nat_lt r.log.base log.base) (rules.thawed log.snapshot)
  where
    by : (over : Bool) (read : Option S) → Up {O = O} r (installs_taken O r ballot (if over then read_into r log read else Some (with_places r log)))
    by true None = up_nothing O r
    by true (Some machine) = same_le r.joined
    by false read = same_le r.joined

up_state : {S C O : Type 0} (rules : Rules S C O) (r : ReplicaState S C) (ballot : ℕ) (log : Log C) → Up {O = O} r (on_state rules r ballot log)
unfolding on_state
up_state {O = O} rules r ballot log =
    up_if r (waits_for r ballot (places log)) (installs_taken O r ballot (taken rules r log)) (nothing_done O r) (λ e. up_handed rules r ballot log) (λ e. up_nothing O r)

up_answered : {S C : Type 0} (O : Type 0) (r : ReplicaState S C) (from ballot held : ℕ) (t : Option (ReplicaState S C)) → r.joined ≤ ballot →
    Up {O = O} r (answers_installed O r from ballot held t)
up_answered O r from ballot held None below = up_nothing O r
up_answered O r from ballot held (Some took) below = below

up_install : {S C O : Type 0} (rules : Rules S C O) (r : ReplicaState S C) (from ballot : ℕ) (log : Log C) → Up {O = O} r (on_install rules r from ballot log)
unfolding on_install
up_install {O = O} rules r from ballot log =
    up_if r (lacks r ballot (places log)) (answers_installed O r from ballot (places log) (taken rules r log)) _
    (λ e.
    up_answered O r from ballot (places log) (taken rules r log)
    (below (or_cases (nat_lt r.joined ballot) (r.joined == ballot && nat_lt r.held_in ballot)
    (and_parts (nat_lt r.joined ballot || (r.joined == ballot && nat_lt r.held_in ballot)) (nat_le r.committed (places log)) e).0)))
    (λ e. up_if r (r.joined == ballot && r.held_in == ballot) _ (nothing_done O r) (λ f. same_le r.joined) (λ f. up_nothing O r))
  where
    below : (nat_lt r.joined ballot ≡ true) ⊎ ((r.joined == ballot && nat_lt r.held_in ballot) ≡ true) → r.joined ≤ ballot
    below (inl e) = let less = ltb-true r.joined ballot e in omega (arith, less)
    below (inr e) =
        let same = eqb-true r.joined ballot (and_parts (r.joined == ballot) (nat_lt r.held_in ballot) e).0 in omega (arith, same)

up_installed : {S C : Type 0} (O : Type 0) (r : ReplicaState S C) (from ballot : ℕ) → Up r (on_installed O r from ballot)
unfolding on_installed
up_installed O r from ballot =
    up_if r ((r.joined == ballot && is_installing r.role) && list_any (λ member. member == from) r.lacking) _ (nothing_done O r)
    (λ e. same_le r.joined) (λ e. up_nothing O r)

up_superseded : {S C : Type 0} (O : Type 0) (r : ReplicaState S C) (ballot : ℕ) → Up r (on_superseded O r ballot)
unfolding on_superseded
up_superseded O r ballot = up_if r (r.joined == ballot && is_installing r.role) _ (nothing_done O r) (λ e. same_le r.joined) (λ e. up_nothing O r)

-- ---- inside a ballot

up_commit_at : {S C O : Type 0} (rules : Rules S C O) (r : ReplicaState S C) (held : ℕ) → Up r (commit_at rules r held)
unfolding commit_at
up_commit_at {O = O} rules r held = up_if r (nat_lt r.committed held) _ (nothing_done O r) (λ e. same_le r.joined) (λ e. up_nothing O r)

up_commit : {S C O : Type 0} (rules : Rules S C O) (r : ReplicaState S C) → Up r (commit rules r)
unfolding commit
up_commit rules r = up_commit_at rules r (least (places r.log) r.progress)

up_added : {S C O : Type 0} (rules : Rules S C O) (r : ReplicaState S C) (command : C) → Up r (added rules r command)
unfolding added
up_added rules r command = up_commit rules (record r { log = pushed r.log command })

pub up_proposed : {S C O : Type 0} (rules : Rules S C O) (r : ReplicaState S C) (command : C) → Up r (proposed rules r command)
unfolding proposed
up_proposed {O = O} rules r command =
    up_if r (is_active r.role && nat_lt (places r.log) max_places) (added rules r command) (nothing_done O r) (λ e. up_added rules r command) (λ e. up_nothing O r)

up_activated : {S C O : Type 0} (rules : Rules S C O) (r : ReplicaState S C) (ballot : ℕ) → Up r (on_activated rules r ballot)
unfolding on_activated
up_activated {O = O} rules r ballot =
    up_if r ((r.joined == ballot && is_installing r.role) && (nat_le (length r.lacking) 0 && nat_lt (places r.log) max_places)) _ (nothing_done O r)
    (λ e. up_added rules _ (rules.start_of ballot)) (λ e. up_nothing O r)

up_append : {S C : Type 0} (O : Type 0) (r : ReplicaState S C) (from ballot place : ℕ) (command : C) → Up r (on_append O r from ballot place command)
unfolding on_append
up_append O r from ballot place command =
    up_if r (follows r ballot && nat_le place (places r.log)) _ (nothing_done O r) (λ e. same_le r.joined) (λ e. up_nothing O r)

up_held : {S C O : Type 0} (rules : Rules S C O) (r : ReplicaState S C) (from ballot held : ℕ) → Up r (on_held rules r from ballot held)
unfolding on_held
up_held {O = O} rules r from ballot held = up_if r (leads r ballot) _ (nothing_done O r) (λ e. up_commit rules _) (λ e. up_nothing O r)

up_committed : {S C O : Type 0} (rules : Rules S C O) (r : ReplicaState S C) (ballot held : ℕ) → Up r (on_commit rules r ballot held)
unfolding on_commit
up_committed {O = O} rules r ballot held =
    up_if r (follows r ballot && nat_le held (places r.log)) _ (nothing_done O r) (λ e. same_le r.joined) (λ e. up_nothing O r)

-- ---- each of its steps

up_received : {S C O : Type 0} (rules : Rules S C O) (r : ReplicaState S C) (from : ℕ) (body : Body C) → Up r (received rules r from body)
up_received {O = O} rules r from (NewBallot ballot members previous previous_members) = up_new_ballot O r ballot members previous previous_members
up_received {O = O} rules r from (Join ballot previous) = up_join O r from ballot previous
up_received rules r from (State ballot log) = up_state rules r ballot log
up_received rules r from (Install ballot log) = up_install rules r from ballot log
up_received {O = O} rules r from (Installed ballot held) = up_installed O r from ballot
up_received {O = O} rules r from (Activate ballot) = up_nothing O r
up_received rules r from (Activated ballot) = up_activated rules r ballot
up_received {O = O} rules r from (Superseded ballot) = up_superseded O r ballot
up_received {O = O} rules r from (Append ballot place command) = up_append O r from ballot place command
up_received rules r from (Held ballot held) = up_held rules r from ballot held
up_received rules r from (Commit ballot held) = up_committed rules r ballot held

up_tick_active : {S C : Type 0} (O : Type 0) (r : ReplicaState S C) → Up r (on_tick_active O r)
unfolding on_tick_active
up_tick_active O r = same_le r.joined

up_ticked : {S C : Type 0} (O : Type 0) (r : ReplicaState S C) (role : Role) → Up r (ticked O r role)
up_ticked O r Backup = up_nothing O r
up_ticked O r Fetching = same_le r.joined
up_ticked O r Installing = same_le r.joined
up_ticked O r Active = up_tick_active O r

pub joined_grows : {S C O : Type 0} (rules : Rules S C O) (r : ReplicaState S C) (input : Input C) → Up r (replica_step rules r input)
joined_grows rules r (Receives message) = up_received rules r message.from message.body
joined_grows rules r (Proposes command) = up_proposed rules r command
joined_grows {O = O} rules r Ticks = up_ticked O r r.role
