-- LogsTaken.antt: State and Install on whole logs, by what the replica is after it took the log.
use Rattle.std.proofs.Common.{◌≡◌, ℕ, ◌≤◌, List, [], ◌∷◌, length, Some, Option, refl, ap, sym, ◌∙◌, subst}
use Rattle.std.specs.Prelude.{nat_lt, nat_le, ◌&&◌, ◌||◌, ◌==◌}
use Rattle.machine.specs.Machine.{Rules}
use Rattle.agreement.specs.whole_logs.Application.{applied_to as whole_applied_to}
use Rattle.agreement.specs.whole_logs.Messages.{Body as bodies}
use Rattle.agreement.specs.whole_logs.Transfer.{on_state as whole_on_state, on_install as whole_on_install, install_effects as whole_install_effects}
use Rattle.agreement.specs.whole_logs.Messages.{Effect as WholeEffect}
use Rattle.agreement.specs.whole_logs.Messages.{Effect as effects}
use Rattle.agreement.specs.whole_logs.Losses.{Thinned as WholeThinned}
use Rattle.agreement.specs.whole_logs.Replica.{ReplicaState as WholeState}
use Rattle.ballot_base.specs.Replica.{is_fetching, others, ReplicaState}
use Rattle.ballot_base.specs.declared.status.Role.TheVariants.{Backup, Installing}
use Rattle.agreement.specs.whole_logs.StepOutcome.{Outcome as WholeOutcome}
use Rattle.ballot_base.specs.Logs.{Log, places}
use Rattle.agreement.specs.cut_logs.Whole.{whole_log, whole, whole_effects}
use Rattle.agreement.specs.cut_logs.Matches.{OutcomeMatches}
use Rattle.ballot_base.specs.StepOutcome.{Outcome}
use Rattle.ballot_base.specs.Transfer.{answers_installed, installs_taken, on_install, on_state}
use Rattle.ballot_base.specs.TakenLog.{taken}
use Rattle.agreement.proofs.of_cut_logs.Fronts.{whole_long}
use Rattle.agreement.proofs.of_cut_logs.Changing.{whole_handed}
use Rattle.agreement.proofs.of_cut_logs.Serving.{if_matches, matches_all, matches_nothing}

-- a log that is taken whole
pub state_matches : {S C O : Type 0} (rules : Rules S C O) (archive : List C) (r took : ReplicaState S C) (ballot : ℕ) (log : Log C) →
    log.base ≤ length archive → taken rules r log ≡ Some took → took.id ≡ r.id → took.members ≡ r.members →
    whole archive took ≡ record (whole archive r) { log = whole_log archive log } →
    OutcomeMatches {O = O} archive (on_state rules r ballot log) (whole_on_state O (whole archive r) ballot (whole_log archive log))
unfolding on_state whole_on_state
state_matches {S = S} {C = C} {O = O} rules archive r took ballot log within is id members same =
    if_matches archive (r.joined == ballot && (is_fetching r.role && nat_le r.committed (places log)))
    (r.joined == ballot && (is_fetching r.role && nat_le r.committed (length (whole_log archive log)))) _ _ _ _
    (ap (λ n. r.joined == ballot && (is_fetching r.role && nat_le r.committed n)) (sym (whole_long archive log within)))
    (subst (λ (o : Option (ReplicaState S C)). OutcomeMatches {O = O} archive (installs_taken O r ballot o) (record { state = new; effects = whole_install_effects O new (others r.id r.members) })) (sym is)
    (matches_all archive _ _ state
    (whole_handed O archive (record took { held_in = ballot; role = Installing; lacking = others r.id r.members }) (others r.id r.members)
    ∙ ap (λ (x : WholeState S C). whole_install_effects O x (others r.id r.members)) state)))
    (matches_nothing O archive r)
  where
    new : WholeState S C
    new = record (whole archive r) { held_in = ballot; log = whole_log archive log; role = Installing; lacking = others r.id r.members }

    state : whole archive (record took { held_in = ballot; role = Installing; lacking = others r.id r.members }) ≡ new
    state = ap (λ (x : WholeState S C). let y : WholeState S C = record x { held_in = ballot; role = Installing; lacking = others r.id r.members } in y) same

pub install_matches : {S C O : Type 0} (rules : Rules S C O) (archive : List C) (r took : ReplicaState S C) (from ballot : ℕ) (log : Log C) →
    log.base ≤ length archive → taken rules r log ≡ Some took →
    whole archive took ≡ record (whole archive r) { log = whole_log archive log } →
    OutcomeMatches {O = O} archive (on_install rules r from ballot log) (whole_on_install O (whole archive r) from ballot (whole_log archive log))
unfolding on_install whole_on_install
install_matches {S = S} {C = C} {O = O} rules archive r took from ballot log within is same =
    if_matches archive ((nat_lt r.joined ballot || (r.joined == ballot && nat_lt r.held_in ballot)) && nat_le r.committed (places log))
    ((nat_lt r.joined ballot || (r.joined == ballot && nat_lt r.held_in ballot)) && nat_le r.committed (length (whole_log archive log))) _ _ _ _
    (ap (λ n. (nat_lt r.joined ballot || (r.joined == ballot && nat_lt r.held_in ballot)) && nat_le r.committed n) (sym long))
    (subst (λ (o : Option (ReplicaState S C)). OutcomeMatches {O = O} archive (answers_installed O r from ballot (places log) o)
    (record { state = new; effects = answer (length (whole_log archive log)) ∷ [] })) (sym is)
    (matches_all archive _ _ (ap (λ (x : WholeState S C). let y : WholeState S C = record x { joined = ballot; held_in = ballot; role = Backup } in y) same)
    (ap (λ n. answer n ∷ []) (sym long))))
    (if_matches archive (r.joined == ballot && r.held_in == ballot) (r.joined == ballot && r.held_in == ballot) _ _ _ _ refl
    (matches_all archive _ _ refl (ap (λ n. answer n ∷ []) (sym long))) (matches_nothing O archive r))
  where
    long : length (whole_log archive log) ≡ places log
    long = whole_long archive log within

    answer : ℕ → WholeEffect C O
    answer n = effects.To from (record { from = r.id; body = bodies.Installed ballot n })

    new : WholeState S C
    new = record (whole archive r) { joined = ballot; held_in = ballot; log = whole_log archive log; role = Backup }

-- a log whose base is over what is applied: the step on whole logs, after which its places are learned
pub record LearnsTo {S C O : Type 0} (rules : Rules S C O) (archive : List C) (k : ℕ) (o : Outcome S C O) (p : WholeOutcome S C O) : Type 0 where
  pub state : whole archive o.state ≡ whole_applied_to rules p.state k
  pub effects : WholeThinned (whole_effects archive o.effects) p.effects
