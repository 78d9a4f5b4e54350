-- LogsCome.antt: State and Install take logs in this way; if they take none they do as on whole
-- logs.
use Rattle.std.proofs.Common.{◌≡◌, ℕ, ◌≤◌, ◌⊎◌, inl, inr, true, false, List, [], ◌∷◌, length, refl, ap, sym, ◌∙◌, subst}
use Rattle.std.specs.Prelude.{nat_lt, nat_le, ◌&&◌, ◌||◌, ◌==◌}
use Rattle.std.proofs.lemmas.Bool.{and_parts, cases_Bool, eqb-true, leb-true}
use Rattle.machine.specs.Machine.{Rules}
use Rattle.agreement.proofs.of_whole_logs.ChangeRows.{on_state-stays, on_state-takes, on_install-answers, on_install-stays, on_install-takes}
use Rattle.agreement.specs.whole_logs.Messages.{Body as bodies}
use Rattle.agreement.specs.whole_logs.Transfer.{on_state as whole_on_state, on_install as whole_on_install, install_effects as whole_install_effects}
use Rattle.ballot_base.specs.declared.status.Role.TheVariants.{Backup, Installing}
use Rattle.agreement.specs.whole_logs.Messages.{Effect as WholeEffect}
use Rattle.agreement.specs.whole_logs.Messages.{Effect as effects}
use Rattle.ballot_base.specs.Replica.{is_active, is_fetching, others, ReplicaState}
use Rattle.agreement.specs.whole_logs.StepOutcome.{Outcome as WholeOutcome, message_to as whole_message_to}
use Rattle.ballot_base.specs.Logs.{Log, places}
use Rattle.agreement.specs.cut_logs.Whole.{whole_log, whole}
use Rattle.agreement.specs.cut_logs.Matches.{OutcomeMatches}
use Rattle.ballot_base.specs.StepOutcome.{Outcome, message_to, nothing_done}
use Rattle.ballot_base.specs.declared.message.Body.TheVariants.{State, Install, Installed}
use Rattle.ballot_base.specs.Transfer.{on_install, on_state}
use Rattle.ballot_base.specs.Protocol.Input.{Receives}
use Rattle.agreement.proofs.of_cut_logs.Fronts.{whole_long}
use Rattle.agreement.proofs.of_cut_logs.LogsGoOn.{TakesLog}
use Rattle.agreement.proofs.of_cut_logs.LogsLearned.{install_learns, state_learns}
use Rattle.agreement.proofs.of_cut_logs.LogsTaken.{install_matches, state_matches}
use Rattle.agreement.proofs.of_cut_logs.Serving.{matches_all, matches_nothing}

pub state_takes : {S C O : Type 0} (rules : Rules S C O) (archive : List C) (r : ReplicaState S C) (from ballot : ℕ) (log : Log C) →
    log.base ≤ length archive → (r.joined == ballot && (is_fetching r.role && nat_le r.committed (places log))) ≡ true →
    TakesLog {O = O} rules archive r (Receives (record { from = from; body = State ballot log })) ballot log
state_takes {S = S} {C = C} {O = O} rules archive r from ballot log within e =
    record {
      long = leb-true r.committed (places log) (and_parts (is_fetching r.role) (nat_le r.committed (places log)) (and_parts (r.joined == ballot) (is_fetching r.role && nat_le r.committed (places log)) e).1).1;
      committed = ap (λ (o : WholeOutcome S C O). o.state.committed) row;
      log_is = ap (λ (o : WholeOutcome S C O). o.state.log) row;
      stopped = ap (λ (o : WholeOutcome S C O). o.state.stopped) row;
      passive = ap (λ (o : WholeOutcome S C O). is_active o.state.role) row;
      joined = ap (λ (o : WholeOutcome S C O). o.state.joined) row
          ∙ eqb-true r.joined ballot (and_parts (r.joined == ballot) (is_fetching r.role && nat_le r.committed (places log)) e).0;
      row = λ took is id members same. state_matches rules archive r took ballot log within is id members same;
      learns = λ took is same. state_learns rules archive r took ballot log log.base e within is same;
    }
  where
    row : whole_on_state O (whole archive r) ballot (whole_log archive log) ≡ record {
      state = record (whole archive r) { held_in = ballot; log = whole_log archive log; role = Installing; lacking = others r.id r.members };
      effects = whole_install_effects O (record (whole archive r) { held_in = ballot; log = whole_log archive log; role = Installing; lacking = others r.id r.members }) (others r.id r.members);
    }
    row = on_state-takes O (whole archive r) ballot (whole_log archive log)
        (ap (λ n. r.joined == ballot && (is_fetching r.role && nat_le r.committed n)) (whole_long archive log within) ∙ e)

pub install_takes : {S C O : Type 0} (rules : Rules S C O) (archive : List C) (r : ReplicaState S C) (from ballot : ℕ) (log : Log C) →
    log.base ≤ length archive → ((nat_lt r.joined ballot || (r.joined == ballot && nat_lt r.held_in ballot)) && nat_le r.committed (places log)) ≡ true →
    TakesLog {O = O} rules archive r (Receives (record { from = from; body = Install ballot log })) ballot log
install_takes {S = S} {C = C} {O = O} rules archive r from ballot log within e =
    record {
      long = leb-true r.committed (places log) (and_parts (nat_lt r.joined ballot || (r.joined == ballot && nat_lt r.held_in ballot)) (nat_le r.committed (places log)) e).1;
      committed = ap (λ (o : WholeOutcome S C O). o.state.committed) row;
      log_is = ap (λ (o : WholeOutcome S C O). o.state.log) row;
      stopped = ap (λ (o : WholeOutcome S C O). o.state.stopped) row;
      passive = ap (λ (o : WholeOutcome S C O). is_active o.state.role) row;
      joined = ap (λ (o : WholeOutcome S C O). o.state.joined) row;
      row = λ took is id members same. install_matches rules archive r took from ballot log within is same;
      learns = λ took is same. install_learns rules archive r took from ballot log log.base e within is same;
    }
  where
    row : whole_on_install O (whole archive r) from ballot (whole_log archive log) ≡ record {
      state = record (whole archive r) { joined = ballot; held_in = ballot; log = whole_log archive log; role = Backup };
      effects = whole_message_to O r.id (bodies.Installed ballot (length (whole_log archive log))) from ∷ [];
    }
    row = on_install-takes O (whole archive r) from ballot (whole_log archive log)
        (ap (λ n. (nat_lt r.joined ballot || (r.joined == ballot && nat_lt r.held_in ballot)) && nat_le r.committed n) (whole_long archive log within) ∙ e)

-- a log that is not taken
pub state_nothing : {S C O : Type 0} (rules : Rules S C O) (r : ReplicaState S C) (ballot : ℕ) (log : Log C) →
    (r.joined == ballot && (is_fetching r.role && nat_le r.committed (places log))) ≡ false → on_state rules r ballot log ≡ nothing_done O r
unfolding on_state
state_nothing {O = O} rules r ballot log e = rw e refl

pub state_stays : {S C O : Type 0} (rules : Rules S C O) (archive : List C) (r : ReplicaState S C) (ballot : ℕ) (log : Log C) → log.base ≤ length archive →
    (r.joined == ballot && (is_fetching r.role && nat_le r.committed (places log))) ≡ false →
    OutcomeMatches {O = O} archive (on_state rules r ballot log) (whole_on_state O (whole archive r) ballot (whole_log archive log))
state_stays {S = S} {C = C} {O = O} rules archive r ballot log within e =
    subst (λ (o : Outcome S C O). OutcomeMatches archive o (whole_on_state O (whole archive r) ballot (whole_log archive log))) (sym (state_nothing rules r ballot log e))
    (subst (λ (p : WholeOutcome S C O). OutcomeMatches archive (nothing_done O r) p)
    (sym (on_state-stays O (whole archive r) ballot (whole_log archive log)
    (ap (λ n. r.joined == ballot && (is_fetching r.role && nat_le r.committed n)) (whole_long archive log within) ∙ e)))
    (matches_nothing O archive r))

pub install_answers : {S C O : Type 0} (rules : Rules S C O) (r : ReplicaState S C) (from ballot : ℕ) (log : Log C) →
    ((nat_lt r.joined ballot || (r.joined == ballot && nat_lt r.held_in ballot)) && nat_le r.committed (places log)) ≡ false →
    (r.joined == ballot && r.held_in == ballot) ≡ true →
    on_install rules r from ballot log ≡ record { state = r; effects = message_to O r.id (Installed ballot (places log)) from ∷ [] }
unfolding on_install
install_answers {O = O} rules r from ballot log e g = rw (e, g) refl

pub install_nothing : {S C O : Type 0} (rules : Rules S C O) (r : ReplicaState S C) (from ballot : ℕ) (log : Log C) →
    ((nat_lt r.joined ballot || (r.joined == ballot && nat_lt r.held_in ballot)) && nat_le r.committed (places log)) ≡ false →
    (r.joined == ballot && r.held_in == ballot) ≡ false → on_install rules r from ballot log ≡ nothing_done O r
unfolding on_install
install_nothing {O = O} rules r from ballot log e g = rw (e, g) refl

pub install_stays : {S C O : Type 0} (rules : Rules S C O) (archive : List C) (r : ReplicaState S C) (from ballot : ℕ) (log : Log C) → log.base ≤ length archive →
    ((nat_lt r.joined ballot || (r.joined == ballot && nat_lt r.held_in ballot)) && nat_le r.committed (places log)) ≡ false →
    OutcomeMatches {O = O} archive (on_install rules r from ballot log) (whole_on_install O (whole archive r) from ballot (whole_log archive log))
install_stays {S = S} {C = C} {O = O} rules archive r from ballot log within e = by_ballot (cases_Bool (r.joined == ballot && r.held_in == ballot))
  where
    also : ((nat_lt r.joined ballot || (r.joined == ballot && nat_lt r.held_in ballot)) && nat_le r.committed (length (whole_log archive log))) ≡ false
    also = ap (λ n. (nat_lt r.joined ballot || (r.joined == ballot && nat_lt r.held_in ballot)) && nat_le r.committed n) (whole_long archive log within) ∙ e

    by_ballot : ((r.joined == ballot && r.held_in == ballot) ≡ true) ⊎ ((r.joined == ballot && r.held_in == ballot) ≡ false) →
        OutcomeMatches {O = O} archive (on_install rules r from ballot log) (whole_on_install O (whole archive r) from ballot (whole_log archive log))
    by_ballot (inl g) =
        subst (λ (o : Outcome S C O). OutcomeMatches archive o (whole_on_install O (whole archive r) from ballot (whole_log archive log))) (sym (install_answers rules r from ballot log e g))
        (subst (λ (p : WholeOutcome S C O). OutcomeMatches archive (record { state = r; effects = message_to O r.id (Installed ballot (places log)) from ∷ [] }) p)
        (sym (on_install-answers O (whole archive r) from ballot (whole_log archive log) also g))
        (matches_all archive _ _ refl
        (ap (λ n. let x : WholeEffect C O = effects.To from (record { from = r.id; body = bodies.Installed ballot n }) in x ∷ []) (sym (whole_long archive log within)))))
    by_ballot (inr g) =
        subst (λ (o : Outcome S C O). OutcomeMatches archive o (whole_on_install O (whole archive r) from ballot (whole_log archive log))) (sym (install_nothing rules r from ballot log e g))
        (subst (λ (p : WholeOutcome S C O). OutcomeMatches archive (nothing_done O r) p)
        (sym (on_install-stays O (whole archive r) from ballot (whole_log archive log) also g)) (matches_nothing O archive r))
