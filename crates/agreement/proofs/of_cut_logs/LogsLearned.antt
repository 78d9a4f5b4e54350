-- LogsLearned.antt: State and Install whose base is over what is applied: the step on whole logs, and learning.
use Rattle.std.proofs.Common.{◌≡◌, ℕ, ◌≤◌, true, List, [], ◌∷◌, length, Some, refl, ap, sym, ◌∙◌, subst}
use Rattle.std.specs.Prelude.{nat_lt, nat_le, ◌&&◌, ◌||◌, ◌==◌}
use Rattle.machine.specs.Machine.{Rules}
use Rattle.agreement.proofs.of_whole_logs.ChangeRows.{on_state-takes, on_install-takes}
use Rattle.agreement.specs.whole_logs.Application.{applied_to as whole_applied_to}
use Rattle.agreement.specs.whole_logs.Messages.{Body as bodies}
use Rattle.agreement.specs.whole_logs.Transfer.{on_state as whole_on_state, on_install as whole_on_install, install_effects as whole_install_effects}
use Rattle.agreement.specs.whole_logs.Messages.{Effect as WholeEffect}
use Rattle.agreement.specs.whole_logs.Messages.{Effect as effects}
use Rattle.agreement.specs.whole_logs.Losses.{Thinned as WholeThinned}
use Rattle.agreement.specs.whole_logs.Losses.Thinned.{none, keeps}
use Rattle.agreement.specs.whole_logs.Replica.{ReplicaState as WholeState}
use Rattle.ballot_base.specs.Replica.{is_fetching, others, ReplicaState}
use Rattle.ballot_base.specs.declared.status.Role.TheVariants.{Backup, Installing}
use Rattle.agreement.specs.whole_logs.StepOutcome.{Outcome as WholeOutcome}
use Rattle.ballot_base.specs.Logs.{Log, places}
use Rattle.agreement.specs.cut_logs.Whole.{whole_log, whole}
use Rattle.ballot_base.specs.StepOutcome.{Outcome}
use Rattle.ballot_base.specs.Transfer.{answers_installed, installs_taken, on_install, on_state}
use Rattle.ballot_base.specs.TakenLog.{taken}
use Rattle.agreement.proofs.of_cut_logs.Changing.{whole_handed}
use Rattle.agreement.proofs.of_cut_logs.Fronts.{whole_long}
use Rattle.agreement.proofs.of_cut_logs.LogsTaken.{LearnsTo}
use Rattle.agreement.proofs.of_cut_logs.Serving.{thinned_same}

pub state_took : {S C O : Type 0} (rules : Rules S C O) (r took : ReplicaState S C) (ballot : ℕ) (log : Log C) →
    (r.joined == ballot && (is_fetching r.role && nat_le r.committed (places log))) ≡ true → taken rules r log ≡ Some took →
    on_state rules r ballot log ≡ installs_taken O r ballot (Some took)
unfolding on_state
state_took {O = O} rules r took ballot log e is = rw e (ap (installs_taken O r ballot) is)

pub install_took : {S C O : Type 0} (rules : Rules S C O) (r took : ReplicaState S C) (from ballot : ℕ) (log : Log C) →
    ((nat_lt r.joined ballot || (r.joined == ballot && nat_lt r.held_in ballot)) && nat_le r.committed (places log)) ≡ true → taken rules r log ≡ Some took →
    on_install rules r from ballot log ≡ answers_installed O r from ballot (places log) (Some took)
unfolding on_install
install_took {O = O} rules r took from ballot log e is = rw e (ap (answers_installed O r from ballot (places log)) is)

same_installs : {S C O : Type 0} (rules : Rules S C O) (x : WholeState S C) (k : ℕ) (lacking : List ℕ) →
    whole_install_effects O (whole_applied_to rules x k) lacking ≡ whole_install_effects O x lacking
same_installs rules x k [] = refl
same_installs rules x k (m ∷ lacking) = refl

pub state_learns : {S C O : Type 0} (rules : Rules S C O) (archive : List C) (r took : ReplicaState S C) (ballot : ℕ) (log : Log C) (k : ℕ) →
    (r.joined == ballot && (is_fetching r.role && nat_le r.committed (places log))) ≡ true → log.base ≤ length archive → taken rules r log ≡ Some took →
    whole archive took ≡ whole_applied_to rules (record (whole archive r) { log = whole_log archive log }) k →
    LearnsTo {O = O} rules archive k (on_state rules r ballot log) (whole_on_state O (whole archive r) ballot (whole_log archive log))
state_learns {S = S} {C = C} {O = O} rules archive r took ballot log k e within is same =
    subst (λ (o : Outcome S C O). LearnsTo rules archive k o (whole_on_state O (whole archive r) ballot (whole_log archive log)))
    (sym (state_took rules r took ballot log e is))
    (subst (λ (p : WholeOutcome S C O). LearnsTo rules archive k (installs_taken O r ballot (Some took)) p)
    (sym (on_state-takes O (whole archive r) ballot (whole_log archive log)
    (ap (λ n. r.joined == ballot && (is_fetching r.role && nat_le r.committed n)) (whole_long archive log within) ∙ e)))
    (record {
      state = state;
      effects = subst (λ (us : List (WholeEffect C O)). WholeThinned us (whole_install_effects O new (others r.id r.members)))
          (sym (whole_handed O archive (record took { held_in = ballot; role = Installing; lacking = others r.id r.members }) (others r.id r.members)
          ∙ ap (λ (x : WholeState S C). whole_install_effects O x (others r.id r.members)) state ∙ same_installs rules new k (others r.id r.members)))
          (thinned_same (whole_install_effects O new (others r.id r.members)));
    }))
  where
    new : WholeState S C
    new = record (whole archive r) { held_in = ballot; log = whole_log archive log; role = Installing; lacking = others r.id r.members }

    state : whole archive (record took { held_in = ballot; role = Installing; lacking = others r.id r.members }) ≡ whole_applied_to rules new k
    state = ap (λ (x : WholeState S C). let y : WholeState S C = record x { held_in = ballot; role = Installing; lacking = others r.id r.members } in y) same

pub install_learns : {S C O : Type 0} (rules : Rules S C O) (archive : List C) (r took : ReplicaState S C) (from ballot : ℕ) (log : Log C) (k : ℕ) →
    ((nat_lt r.joined ballot || (r.joined == ballot && nat_lt r.held_in ballot)) && nat_le r.committed (places log)) ≡ true → log.base ≤ length archive →
    taken rules r log ≡ Some took → whole archive took ≡ whole_applied_to rules (record (whole archive r) { log = whole_log archive log }) k →
    LearnsTo {O = O} rules archive k (on_install rules r from ballot log) (whole_on_install O (whole archive r) from ballot (whole_log archive log))
install_learns {S = S} {C = C} {O = O} rules archive r took from ballot log k e within is same =
    subst (λ (o : Outcome S C O). LearnsTo rules archive k o (whole_on_install O (whole archive r) from ballot (whole_log archive log)))
    (sym (install_took rules r took from ballot log e is))
    (subst (λ (p : WholeOutcome S C O). LearnsTo rules archive k (answers_installed O r from ballot (places log) (Some took)) p)
    (sym (on_install-takes O (whole archive r) from ballot (whole_log archive log)
    (ap (λ n. (nat_lt r.joined ballot || (r.joined == ballot && nat_lt r.held_in ballot)) && nat_le r.committed n) (whole_long archive log within) ∙ e)))
    (record {
      state = ap (λ (x : WholeState S C). let y : WholeState S C = record x { joined = ballot; held_in = ballot; role = Backup } in y) same;
      effects = subst (λ (n : ℕ). WholeThinned (answer (places log) ∷ []) (answer n ∷ [])) (sym (whole_long archive log within)) (keeps none);
    }))
  where
    answer : ℕ → WholeEffect C O
    answer n = effects.To from (record { from = r.id; body = bodies.Installed ballot n })
