-- ChangeRows.antt: what each row between ballots gives, and each tick of a new primary.
use Rattle.std.proofs.Common.{◌≡◌, ℕ, ◌<◌, ◌≤◌, true, false, cond, List, [], ◌∷◌, length, Some, None, refl, ap}
use Rattle.std.specs.Prelude.{nat_lt, nat_le, ◌&&◌, ◌==◌}
use Rattle.std.specs.List.{list_any}
use Rattle.std.proofs.lemmas.Bool.{lt-ltb, le-ltb}
use Rattle.machine.specs.Machine.{Rules}
use Rattle.ballot_base.specs.Application.{applied_to}
use Rattle.ballot_base.specs.Logs.{Log, places}
use Rattle.ballot_base.specs.TakenLog.{taken}
use Rattle.ballot_base.specs.declared.message.Body.TheVariants.{Join, State, Install, Installed}
use Rattle.ballot_base.specs.declared.status.Role.TheVariants.{Backup, Fetching, Installing, Active}
use Rattle.ballot_base.specs.declared.status.Role.{Role}
use Rattle.ballot_base.specs.Protocol.{ticked}
use Rattle.ballot_base.specs.Replica.{ReplicaState, is_backup, is_fetching, is_installing, others, progress_at}
use Rattle.ballot_base.specs.StepOutcome.{nothing_done, message_to, message_to_each}
use Rattle.ballot_base.specs.Service.{max_places, added}
use Rattle.ballot_base.specs.Transfer.{waits_for, lacks, installs_taken, answers_installed, on_new_ballot, on_join, on_install, install_effects, on_state, on_tick_fetching, on_tick_installing}
use Rattle.ballot_base.specs.Activation.{on_superseded, activates, on_installed, on_activated}

-- NewBallot
pub on_new_ballot-joins : {S C : Type 0} (O : Type 0) (r : ReplicaState S C) (b : ℕ) (members : List ℕ) (a : ℕ) (old : List ℕ) →
    r.joined < b → on_new_ballot O r b members a old ≡ record {
      state = record r {
        joined = b;
        role = Fetching;
        members = members;
        previous = a;
        previous_members = old;
        lacking = [];
        progress = [];
      };
      effects = message_to_each O r.id (Join b a) old;
    }
unfolding on_new_ballot
on_new_ballot-joins O r b members a old low = rw (lt-ltb r.joined b low) refl

pub on_new_ballot-stays : {S C : Type 0} (O : Type 0) (r : ReplicaState S C) (b : ℕ) (members : List ℕ) (a : ℕ) (old : List ℕ) →
    b ≤ r.joined → on_new_ballot O r b members a old ≡ nothing_done O r
unfolding on_new_ballot
on_new_ballot-stays O r b members a old high = rw (le-ltb r.joined b high) refl

-- Join
pub on_join-stays : {S C : Type 0} (O : Type 0) (r : ReplicaState S C) (from b a : ℕ) →
    (nat_le r.joined b && nat_le a r.held_in) ≡ false → on_join O r from b a ≡ nothing_done O r
unfolding on_join
on_join-stays O r from b a e = rw e refl

pub on_join-answers : {S C : Type 0} (O : Type 0) (r : ReplicaState S C) (from b a : ℕ) →
    (nat_le r.joined b && nat_le a r.held_in) ≡ true → on_join O r from b a ≡ record {
      state = cond (nat_lt r.joined b) (record r { joined = b; role = Backup }) r;
      effects = message_to O r.id (State b r.log) from ∷ [];
    }
unfolding on_join
on_join-answers O r from b a e = rw e refl

-- State
pub on_state-stays : {S C O : Type 0} (rules : Rules S C O) (r : ReplicaState S C) (b : ℕ) (log : Log C) →
    waits_for r b (places log) ≡ false → on_state rules r b log ≡ nothing_done O r
unfolding on_state
on_state-stays rules r b log e = rw e refl

pub on_state-takes : {S C O : Type 0} (rules : Rules S C O) (r took : ReplicaState S C) (b : ℕ) (log : Log C) →
    waits_for r b (places log) ≡ true → taken rules r log ≡ Some took → on_state rules r b log ≡ record {
      state = record took { held_in = b; role = Installing; lacking = others r.id r.members };
      effects = install_effects O (record took { held_in = b; role = Installing; lacking = others r.id r.members }) (others r.id r.members);
    }
unfolding on_state
on_state-takes rules r took b log e f = rw e (ap (installs_taken _ r b) f)

-- .. whose snapshot does not thaw
pub on_state-unread : {S C O : Type 0} (rules : Rules S C O) (r : ReplicaState S C) (b : ℕ) (log : Log C) →
    waits_for r b (places log) ≡ true → taken rules r log ≡ None → on_state rules r b log ≡ nothing_done O r
unfolding on_state
on_state-unread rules r b log e f = rw e (ap (installs_taken _ r b) f)

-- Install
pub on_install-takes : {S C O : Type 0} (rules : Rules S C O) (r took : ReplicaState S C) (from b : ℕ) (log : Log C) →
    lacks r b (places log) ≡ true → taken rules r log ≡ Some took →
    on_install rules r from b log ≡ record {
      state = record took { joined = b; held_in = b; role = Backup };
      effects = message_to O r.id (Installed b (places log)) from ∷ [];
    }
unfolding on_install
on_install-takes rules r took from b log e f = rw e (ap (answers_installed _ r from b (places log)) f)

pub on_install-unread : {S C O : Type 0} (rules : Rules S C O) (r : ReplicaState S C) (from b : ℕ) (log : Log C) →
    lacks r b (places log) ≡ true → taken rules r log ≡ None → on_install rules r from b log ≡ nothing_done O r
unfolding on_install
on_install-unread rules r from b log e f = rw e (ap (answers_installed _ r from b (places log)) f)

pub on_install-answers : {S C O : Type 0} (rules : Rules S C O) (r : ReplicaState S C) (from b : ℕ) (log : Log C) →
    lacks r b (places log) ≡ false → (r.joined == b && r.held_in == b) ≡ true →
    on_install rules r from b log ≡ record { state = r; effects = message_to O r.id (Installed b (places log)) from ∷ [] }
unfolding on_install
on_install-answers rules r from b log e f = rw (e, f) refl

pub on_install-stays : {S C O : Type 0} (rules : Rules S C O) (r : ReplicaState S C) (from b : ℕ) (log : Log C) →
    lacks r b (places log) ≡ false → (r.joined == b && r.held_in == b) ≡ false → on_install rules r from b log ≡ nothing_done O r
unfolding on_install
on_install-stays rules r from b log e f = rw (e, f) refl

-- Installed
pub on_installed-stays : {S C : Type 0} (O : Type 0) (r : ReplicaState S C) (from b : ℕ) →
    ((r.joined == b && is_installing r.role) && list_any (λ member. member == from) r.lacking) ≡ false →
    on_installed O r from b ≡ nothing_done O r
unfolding on_installed
on_installed-stays O r from b e = rw e refl

pub on_installed-counts : {S C : Type 0} (O : Type 0) (r : ReplicaState S C) (from b : ℕ) →
    ((r.joined == b && is_installing r.role) && list_any (λ member. member == from) r.lacking) ≡ true →
    on_installed O r from b ≡ record {
      state = record r { lacking = others from r.lacking };
      effects = activates O (record r { lacking = others from r.lacking }) (others from r.lacking);
    }
unfolding on_installed
on_installed-counts O r from b e = rw e refl

-- Superseded
pub on_superseded-stays : {S C : Type 0} (O : Type 0) (r : ReplicaState S C) (b : ℕ) →
    (r.joined == b && is_installing r.role) ≡ false → on_superseded O r b ≡ nothing_done O r
unfolding on_superseded
on_superseded-stays O r b e = rw e refl

pub on_superseded-leaves : {S C : Type 0} (O : Type 0) (r : ReplicaState S C) (b : ℕ) →
    (r.joined == b && is_installing r.role) ≡ true → on_superseded O r b ≡ record { state = record r { role = Backup }; effects = [] }
unfolding on_superseded
on_superseded-leaves O r b e = rw e refl

-- Activated
pub on_activated-stays : {S C O : Type 0} (rules : Rules S C O) (r : ReplicaState S C) (b : ℕ) →
    ((r.joined == b && is_installing r.role) && (nat_le (length r.lacking) 0 && nat_lt (places r.log) max_places)) ≡ false →
    on_activated rules r b ≡ nothing_done O r
unfolding on_activated
on_activated-stays rules r b e = rw e refl

pub on_activated-adds : {S C O : Type 0} (rules : Rules S C O) (r : ReplicaState S C) (b : ℕ) →
    ((r.joined == b && is_installing r.role) && (nat_le (length r.lacking) 0 && nat_lt (places r.log) max_places)) ≡ true →
    on_activated rules r b ≡ added rules
    (record (applied_to rules r (places r.log)) { role = Active; progress = progress_at (places r.log) (others r.id r.members) })
    (rules.start_of b)
unfolding on_activated
on_activated-adds rules r b e = rw e refl

-- the log that is sent if members lack it, and if none does
pub install_effects-some : {S C : Type 0} (O : Type 0) (r : ReplicaState S C) (members : List ℕ) → (members ≡ [] → ⊥) →
    install_effects O r members ≡ message_to_each O r.id (Install r.joined r.log) members
install_effects-some O r [] some = absurd (some refl)
install_effects-some O r (member ∷ members) some = refl

-- a tick of a new primary
pub ticked-fetching : {S C : Type 0} (O : Type 0) (r : ReplicaState S C) (role : Role) →
    is_fetching role ≡ true → ticked O r role ≡ on_tick_fetching O r
ticked-fetching O r Backup e = cc
ticked-fetching O r Fetching e = refl
ticked-fetching O r Installing e = cc
ticked-fetching O r Active e = cc

pub ticked-installing : {S C : Type 0} (O : Type 0) (r : ReplicaState S C) (role : Role) →
    is_installing role ≡ true → ticked O r role ≡ on_tick_installing O r
ticked-installing O r Backup e = cc
ticked-installing O r Fetching e = cc
ticked-installing O r Installing e = refl
ticked-installing O r Active e = cc

-- and one of a backup
pub ticked-backup : {S C : Type 0} (O : Type 0) (r : ReplicaState S C) (role : Role) →
    is_backup role ≡ true → ticked O r role ≡ nothing_done O r
ticked-backup O r Backup e = refl
ticked-backup O r Fetching e = cc
ticked-backup O r Installing e = cc
ticked-backup O r Active e = cc
