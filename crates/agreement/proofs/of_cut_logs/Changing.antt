-- Changing.antt: the rows between ballots that take no log are those on whole logs.
use Rattle.std.proofs.Common.{cond, Bool, ◌≡◌, ℕ, true, false, List, [], ◌∷◌, length, take, drop, refl, ap, sym, ◌∙◌, subst, arith}
use Rattle.std.specs.Prelude.{nat_lt, nat_le, ◌&&◌, ◌==◌}
use Rattle.std.specs.List.{list_any}
use Rattle.machine.specs.Machine.{Rules, replay_from}
use Rattle.agreement.specs.whole_logs.Messages.{Effect as effects}
use Rattle.agreement.specs.whole_logs.Replica.{ReplicaState as WholeState}
use Rattle.ballot_base.specs.Replica.{is_installing, others, progress_at, ReplicaState}
use Rattle.ballot_base.specs.declared.status.Role.TheVariants.{Backup, Active}
use Rattle.agreement.specs.whole_logs.StepOutcome.{message_to_each as whole_each}
use Rattle.ballot_base.specs.Service.{max_places, added}
use Rattle.agreement.specs.whole_logs.Service.{added as whole_added}
use Rattle.agreement.specs.whole_logs.Transfer.{on_new_ballot as whole_on_new_ballot, on_join as whole_on_join, install_effects as whole_install_effects, on_tick_fetching as whole_on_tick_fetching, on_tick_installing as whole_on_tick_installing}
use Rattle.agreement.specs.whole_logs.Activation.{activates as whole_activates, on_installed as whole_on_installed, on_activated as whole_on_activated, on_superseded as whole_on_superseded}
use Rattle.ballot_base.specs.Logs.{places}
use Rattle.agreement.specs.cut_logs.Whole.{whole_log, whole, whole_body, whole_effects}
use Rattle.agreement.specs.cut_logs.Matches.{IsBased, OutcomeMatches}
use Rattle.ballot_base.specs.declared.message.Body.{Body}
use Rattle.ballot_base.specs.StepOutcome.{message_to_each}
use Rattle.ballot_base.specs.declared.message.Body.TheVariants.{Join, Install}
use Rattle.ballot_base.specs.Transfer.{install_effects, on_join, on_new_ballot, on_tick_fetching, on_tick_installing}
use Rattle.ballot_base.specs.Activation.{activates, on_activated, on_installed, on_superseded}
use Rattle.ballot_base.specs.Application.{applied_to}
use Rattle.agreement.proofs.of_cut_logs.Fronts.{whole_long, whole_part}
use Rattle.agreement.proofs.of_cut_logs.Serving.{added_matches, if_matches, matches_all, matches_nothing}

pub whole_to_each : {C : Type 0} (O : Type 0) (archive : List C) (id : ℕ) (body : Body C) (receivers : List ℕ) →
    whole_effects archive (message_to_each O id body receivers) ≡ whole_each O id (whole_body archive body) receivers
whole_to_each O archive id body [] = refl
whole_to_each O archive id body (x ∷ receivers) =
    ap (λ us. effects.To x (record { from = id; body = whole_body archive body }) ∷ us) (whole_to_each O archive id body receivers)

pub whole_handed : {S C : Type 0} (O : Type 0) (archive : List C) (r : ReplicaState S C) (lacking : List ℕ) →
    whole_effects archive (install_effects O r lacking) ≡ whole_install_effects O (whole archive r) lacking
whole_handed O archive r [] = refl
whole_handed O archive r (x ∷ lacking) = whole_to_each O archive r.id (Install r.joined r.log) (x ∷ lacking)

whole_asked : {S C : Type 0} (O : Type 0) (archive : List C) (r : ReplicaState S C) (lacking : List ℕ) →
    whole_effects archive (activates O r lacking) ≡ whole_activates O (whole archive r) lacking
whole_asked O archive r [] = refl
whole_asked O archive r (x ∷ lacking) = refl

pub new_ballot_matches : {S C : Type 0} (O : Type 0) (archive : List C) (r : ReplicaState S C) (ballot : ℕ) (members : List ℕ) (previous : ℕ) (old : List ℕ) →
    OutcomeMatches {O = O} archive (on_new_ballot O r ballot members previous old) (whole_on_new_ballot O (whole archive r) ballot members previous old)
unfolding on_new_ballot whole_on_new_ballot
new_ballot_matches O archive r ballot members previous old =
    if_matches archive (nat_lt r.joined ballot) (nat_lt r.joined ballot) _ _ _ _ refl (matches_all archive _ _ refl (whole_to_each O archive r.id (Join ballot previous) old)) (matches_nothing O archive r)

pub join_matches : {S C : Type 0} (O : Type 0) (archive : List C) (r : ReplicaState S C) (from ballot previous : ℕ) →
    OutcomeMatches {O = O} archive (on_join O r from ballot previous) (whole_on_join O (whole archive r) from ballot previous)
unfolding on_join whole_on_join
join_matches {S = S} {C = C} O archive r from ballot previous =
    if_matches archive (nat_le r.joined ballot && nat_le previous r.held_in) (nat_le r.joined ballot && nat_le previous r.held_in) _ _ _ _ refl (matches_all archive _ _ (by (nat_lt r.joined ballot)) refl) (matches_nothing O archive r)
  where
    by : (b : Bool) → whole archive (cond b (record r { joined = ballot; role = Backup }) r)
        ≡ cond b (record (whole archive r) { joined = ballot; role = Backup }) (whole archive r)
    by true = refl
    by false = refl

pub installed_matches : {S C : Type 0} (O : Type 0) (archive : List C) (r : ReplicaState S C) (from ballot : ℕ) →
    OutcomeMatches {O = O} archive (on_installed O r from ballot) (whole_on_installed O (whole archive r) from ballot)
unfolding on_installed whole_on_installed
installed_matches O archive r from ballot =
    if_matches archive ((r.joined == ballot && is_installing r.role) && list_any (λ member. member == from) r.lacking) ((r.joined == ballot && is_installing r.role) && list_any (λ member. member == from) r.lacking) _ _ _ _ refl
    (matches_all archive _ _ refl (whole_asked O archive (record r { lacking = others from r.lacking }) (others from r.lacking))) (matches_nothing O archive r)

pub superseded_matches : {S C : Type 0} (O : Type 0) (archive : List C) (r : ReplicaState S C) (ballot : ℕ) →
    OutcomeMatches {O = O} archive (on_superseded O r ballot) (whole_on_superseded O (whole archive r) ballot)
unfolding on_superseded whole_on_superseded
superseded_matches {S = S} {C = C} O archive r ballot =
    if_matches archive (r.joined == ballot && is_installing r.role) (r.joined == ballot && is_installing r.role)
    (record { state = record r { role = Backup }; effects = [] }) _ (record { state = record (whole archive r) { role = Backup }; effects = [] }) _ refl (matches_all archive _ _ refl refl) (matches_nothing O archive r)

pub activated_matches : {S C O : Type 0} (rules : Rules S C O) (archive : List C) (r : ReplicaState S C) (ballot : ℕ) → IsBased archive r →
    OutcomeMatches {O = O} archive (on_activated rules r ballot) (whole_on_activated rules (whole archive r) ballot)
unfolding on_activated whole_on_activated
activated_matches {S = S} {C = C} {O = O} rules archive r ballot b =
    if_matches archive _ _ _ _ _ _
    (ap (λ n. (r.joined == ballot && is_installing r.role) && (nat_le (length r.lacking) 0 && nat_lt n max_places)) (sym long))
    (subst (λ (x : WholeState S C). OutcomeMatches {O = O} archive (added rules active (rules.start_of ballot)) (whole_added rules x (rules.start_of ballot))) same
    (added_matches rules archive active (rules.start_of ballot) (record { within = b.within; low = omega arith })))
    (matches_nothing O archive r)
  where
    long : length (whole_log archive r.log) ≡ places r.log
    long = whole_long archive r.log b.within

    active : ReplicaState S C
    active = record (applied_to rules r (places r.log)) { role = Active; progress = progress_at (places r.log) (others r.id r.members) }

    with_all : ℕ → List C → WholeState S C
    with_all n us = record (whole archive r) { committed = n; machine = replay_from rules r.machine us; role = Active; progress = progress_at n (others r.id r.members) }

    same : whole archive active ≡ with_all (length (whole_log archive r.log)) (drop r.committed (take (length (whole_log archive r.log)) (whole_log archive r.log)))
    same =
        ap (with_all (places r.log)) (sym (whole_part archive r.log r.committed (places r.log) b.within b.low))
        ∙ ap (λ n. with_all n (drop r.committed (take n (whole_log archive r.log)))) (sym long)

pub tick_fetching_matches : {S C : Type 0} (O : Type 0) (archive : List C) (r : ReplicaState S C) →
    OutcomeMatches {O = O} archive (on_tick_fetching O r) (whole_on_tick_fetching O (whole archive r))
tick_fetching_matches O archive r = matches_all archive _ _ refl (whole_to_each O archive r.id (Join r.joined r.previous) r.previous_members)

pub tick_installing_matches : {S C : Type 0} (O : Type 0) (archive : List C) (r : ReplicaState S C) →
    OutcomeMatches {O = O} archive (on_tick_installing O r) (whole_on_tick_installing O (whole archive r))
tick_installing_matches O archive r = matches_all archive _ _ refl (whole_handed O archive r r.lacking)
