-- SameRows.antt: what a node takes that carries no log does to a cut log what it does to the whole
-- one, and all the same is sent.
use Rattle.std.proofs.Common.{cond, Bool, ◌≡◌, ℕ, ◌≤◌, true, false, max, List, [], ◌∷◌, ◌++◌, length, take, drop, refl, ap, ap₂, sym, ◌∙◌, subst, arith}
use Rattle.std.specs.Prelude.{nat_lt, nat_le, ◌&&◌, ◌==◌}
use Rattle.std.specs.List.{list_any}
use Rattle.std.proofs.lemmas.List.{map-append}
use Rattle.machine.specs.Machine.{Rules, replay_from}
use Rattle.agreement.specs.whole_logs.Messages.{Body as bodies}
use Rattle.agreement.specs.whole_logs.Messages.{Effect as WholeEffect}
use Rattle.agreement.specs.whole_logs.Messages.{Effect as effects}
use Rattle.agreement.specs.whole_logs.Application.{outputs_from as whole_outputs_from}
use Rattle.agreement.specs.whole_logs.Transfer.{on_new_ballot as whole_on_new_ballot, on_join as whole_on_join}
use Rattle.agreement.specs.whole_logs.Activation.{activates as whole_activates, on_installed as whole_on_installed, on_activated as whole_on_activated, on_superseded as whole_on_superseded}
use Rattle.agreement.specs.whole_logs.Protocol.{received as whole_received}
use Rattle.agreement.specs.whole_logs.Replica.{ReplicaState as WholeState}
use Rattle.agreement.specs.whole_logs.StepOutcome.{Outcome as WholeOutcome, message_to_followed as whole_followed, nothing_done as whole_nothing}
use Rattle.agreement.specs.whole_logs.Service.{commit as whole_commit, commit_at as whole_commit_at, added as whole_added, on_append as whole_on_append, on_held as whole_on_held, on_commit as whole_on_commit, extended as whole_extended, proposed as whole_proposed}
use Rattle.ballot_base.specs.declared.message.Body.{Body}
use Rattle.ballot_base.specs.declared.message.Body.TheVariants.{NewBallot, Join, State, Install, Installed, Activate, Activated, Superseded, Append, Held, Commit}
use Rattle.ballot_base.specs.declared.status.Role.TheVariants.{Backup, Active}
use Rattle.ballot_base.specs.Application.{applied_to, outputs_to}
use Rattle.ballot_base.specs.Transfer.{on_join, on_new_ballot}
use Rattle.ballot_base.specs.Activation.{activates, on_activated, on_installed, on_superseded}
use Rattle.ballot_base.specs.Logs.{Log, part, places, pushed}
use Rattle.ballot_base.specs.Protocol.{received}
use Rattle.ballot_base.specs.Replica.{ReplicaState, is_active, is_installing, others, progress_at}
use Rattle.ballot_base.specs.StepOutcome.{Outcome, message_to_followed, nothing_done}
use Rattle.ballot_base.specs.Service.{added, commit, commit_at, extended, follows, leads, least, max_places, on_append, on_commit, on_held, proposed, raised}
use Rattle.agreement.specs.cut_logs.Matches.{IsBased}
use Rattle.agreement.specs.cut_logs.Whole.{whole, whole_body, whole_effect, whole_effects, whole_log}
use Rattle.agreement.proofs.of_cut_logs.Changing.{whole_to_each}
use Rattle.agreement.proofs.of_cut_logs.Fronts.{whole_long, whole_part, whole_pushed}
use Rattle.agreement.proofs.of_cut_logs.Plain.{IsPlainBody}
use Rattle.agreement.proofs.of_cut_logs.Serving.{whole_outputs, whole_to_followed}

-- an outcome corresponds to one on whole logs, and nothing that it hands out is missing
pub record IsSame {S C O : Type 0} (archive : List C) (o : Outcome S C O) (p : WholeOutcome S C O) : Type 0 where
  pub state : whole archive o.state ≡ p.state
  pub effects : whole_effects archive o.effects ≡ p.effects

same_nothing : {S C : Type 0} (O : Type 0) (archive : List C) (r : ReplicaState S C) → IsSame {O = O} archive (nothing_done O r) (whole_nothing O (whole archive r))
same_nothing O archive r = record { state = refl; effects = refl }

if_same : {S C O : Type 0} (archive : List C) (b c : Bool) (o p : Outcome S C O) (u v : WholeOutcome S C O) → b ≡ c →
    IsSame archive o u → IsSame archive p v → IsSame archive (cond b o p) (cond c u v)
if_same archive true true o p u v e m n = m
if_same archive false false o p u v e m n = n
if_same archive true false o p u v e m n = cc
if_same archive false true o p u v e m n = cc

-- ---- places that are committed

at_same : {S C O : Type 0} (rules : Rules S C O) (archive : List C) (r : ReplicaState S C) (held : ℕ) → IsBased archive r →
    IsSame {O = O} archive (commit_at rules r held) (whole_commit_at rules (whole archive r) held)
unfolding commit_at whole_commit_at
at_same {S = S} {C = C} {O = O} rules archive r held b =
    if_same archive (nat_lt r.committed held) (nat_lt r.committed held) _ _ _ _ refl
    (record {
      state = ap (λ (us : List C). let x : WholeState S C = record (whole archive r) { committed = held; machine = replay_from rules r.machine us } in x) (sym same);
      effects = map-append (whole_effect archive) (outputs_to rules r held) (message_to_followed O r.id (Commit r.joined held) r.progress)
          ∙ ap₂ (λ (us vs : List (WholeEffect C O)). us ++ vs)
          (whole_outputs rules archive r.machine r.committed (part r.log r.committed held)
          ∙ ap (λ (us : List C). whole_outputs_from {O = O} rules r.machine r.committed us) (sym same))
          (whole_to_followed O archive r.id (Commit r.joined held) r.progress);
    })
    (same_nothing O archive r)
  where
    same : drop r.committed (take held (whole_log archive r.log)) ≡ part r.log r.committed held
    same = whole_part archive r.log r.committed held b.within b.low

commit_same : {S C O : Type 0} (rules : Rules S C O) (archive : List C) (r : ReplicaState S C) → IsBased archive r →
    IsSame {O = O} archive (commit rules r) (whole_commit rules (whole archive r))
unfolding commit whole_commit
commit_same {O = O} rules archive r b =
    subst (λ (n : ℕ). IsSame {O = O} archive (commit_at rules r (least (places r.log) r.progress)) (whole_commit_at rules (whole archive r) (least n r.progress)))
    (sym (whole_long archive r.log b.within)) (at_same rules archive r (least (places r.log) r.progress) b)

added_same : {S C O : Type 0} (rules : Rules S C O) (archive : List C) (r : ReplicaState S C) (c : C) → IsBased archive r →
    IsSame {O = O} archive (added rules r c) (whole_added rules (whole archive r) c)
unfolding added whole_added
added_same {S = S} {C = C} {O = O} rules archive r c b =
    record {
      state = rest.state;
      effects = map-append (whole_effect archive) (message_to_followed O r.id (Append r.joined (places r.log) c) r.progress) (commit rules longer).effects
          ∙ ap₂ (λ (us vs : List (WholeEffect C O)). us ++ vs)
          (whole_to_followed O archive r.id (Append r.joined (places r.log) c) r.progress
          ∙ ap (λ n. whole_followed O r.id (bodies.Append r.joined n c) r.progress) (sym (whole_long archive r.log b.within)))
          rest.effects;
    }
  where
    longer : ReplicaState S C
    longer = record r { log = pushed r.log c }

    rest : IsSame {O = O} archive (commit rules longer) (whole_commit rules (record (whole archive r) { log = whole_log archive r.log ++ c ∷ [] }))
    rest = subst (λ (us : List C). IsSame {O = O} archive (commit rules longer) (whole_commit rules (record (whole archive r) { log = us })))
        (whole_pushed archive r.log c) (commit_same rules archive longer (record { within = b.within; low = b.low }))

-- ---- inside a ballot

pub proposed_same : {S C O : Type 0} (rules : Rules S C O) (archive : List C) (r : ReplicaState S C) (c : C) → IsBased archive r →
    IsSame {O = O} archive (proposed rules r c) (whole_proposed rules (whole archive r) c)
unfolding proposed whole_proposed
proposed_same {O = O} rules archive r c b =
    if_same archive _ _ _ _ _ _ (ap (λ n. is_active r.role && nat_lt n max_places) (sym (whole_long archive r.log b.within)))
    (added_same rules archive r c b) (same_nothing O archive r)

held_same : {S C O : Type 0} (rules : Rules S C O) (archive : List C) (r : ReplicaState S C) (from ballot held : ℕ) → IsBased archive r →
    IsSame {O = O} archive (on_held rules r from ballot held) (whole_on_held rules (whole archive r) from ballot held)
unfolding on_held whole_on_held
held_same {O = O} rules archive r from ballot held b =
    if_same archive (leads r ballot) (leads r ballot) _ _ _ _ refl
    (commit_same rules archive (record r { progress = raised from held r.progress }) (record { within = b.within; low = b.low })) (same_nothing O archive r)

commits_same : {S C O : Type 0} (rules : Rules S C O) (archive : List C) (r : ReplicaState S C) (ballot held : ℕ) → IsBased archive r →
    IsSame {O = O} archive (on_commit rules r ballot held) (whole_on_commit rules (whole archive r) ballot held)
unfolding on_commit whole_on_commit
commits_same {S = S} {C = C} {O = O} rules archive r ballot held b =
    if_same archive _ _ _ _ _ _ (ap (λ n. follows r ballot && nat_le held n) (sym (whole_long archive r.log b.within)))
    (record {
      state = ap (λ (us : List C). let x : WholeState S C = record (whole archive r) { committed = max r.committed held; machine = replay_from rules r.machine us } in x)
          (sym (whole_part archive r.log r.committed (max r.committed held) b.within b.low));
      effects = refl;
    })
    (same_nothing O archive r)

extended_whole : {C : Type 0} (archive : List C) (place : ℕ) (c : C) (log : Log C) → log.base ≤ length archive →
    whole_log archive (extended place c log) ≡ whole_extended place c (whole_log archive log)
extended_whole {C = C} archive place c log within =
    by (place == places log) ∙ ap (λ n. cond (place == n) (whole_log archive log ++ c ∷ []) (whole_log archive log)) (sym (whole_long archive log within))
  where
    by : (b : Bool) → whole_log archive (cond b (pushed log c) log) ≡ cond b (whole_log archive log ++ c ∷ []) (whole_log archive log)
    by true = whole_pushed archive log c
    by false = refl

extended_based : {C : Type 0} (place : ℕ) (c : C) (log : Log C) (n : ℕ) → log.base ≤ n → (extended place c log).base ≤ n
extended_based {C = C} place c log n within = by (place == places log)
  where
    by : (b : Bool) → (cond b (pushed log c) log).base ≤ n
    by true = within
    by false = within

append_same : {S C : Type 0} (O : Type 0) (archive : List C) (r : ReplicaState S C) (from ballot place : ℕ) (c : C) → IsBased archive r →
    IsSame {O = O} archive (on_append O r from ballot place c) (whole_on_append O (whole archive r) from ballot place c)
unfolding on_append whole_on_append
append_same {S = S} {C = C} O archive r from ballot place c b =
    if_same archive _ _ _ _ _ _ (ap (λ n. follows r ballot && nat_le place n) (sym (whole_long archive r.log b.within)))
    (record {
      state = ap (λ (us : List C). let x : WholeState S C = record (whole archive r) { log = us } in x) same;
      effects = ap (λ n. let x : WholeEffect C O = effects.To from (record { from = r.id; body = bodies.Held ballot n }) in x ∷ [])
          (sym (whole_long archive (extended place c r.log) (extended_based place c r.log (length archive) b.within)) ∙ ap length same);
    })
    (same_nothing O archive r)
  where
    same : whole_log archive (extended place c r.log) ≡ whole_extended place c (whole_log archive r.log)
    same = extended_whole archive place c r.log b.within

-- ---- between ballots

new_ballot_same : {S C : Type 0} (O : Type 0) (archive : List C) (r : ReplicaState S C) (ballot : ℕ) (members : List ℕ) (previous : ℕ) (old : List ℕ) →
    IsSame {O = O} archive (on_new_ballot O r ballot members previous old) (whole_on_new_ballot O (whole archive r) ballot members previous old)
unfolding on_new_ballot whole_on_new_ballot
new_ballot_same O archive r ballot members previous old =
    if_same archive (nat_lt r.joined ballot) (nat_lt r.joined ballot) _ _ _ _ refl (record { state = refl; effects = whole_to_each O archive r.id (Join ballot previous) old }) (same_nothing O archive r)

join_same : {S C : Type 0} (O : Type 0) (archive : List C) (r : ReplicaState S C) (from ballot previous : ℕ) →
    IsSame {O = O} archive (on_join O r from ballot previous) (whole_on_join O (whole archive r) from ballot previous)
unfolding on_join whole_on_join
join_same {S = S} {C = C} O archive r from ballot previous =
    if_same archive (nat_le r.joined ballot && nat_le previous r.held_in) (nat_le r.joined ballot && nat_le previous r.held_in) _ _ _ _ refl
    (record { state = by (nat_lt r.joined ballot); effects = refl }) (same_nothing O archive r)
  where
    by : (b : Bool) → whole archive (cond b (record r { joined = ballot; role = Backup }) r)
        ≡ cond b (record (whole archive r) { joined = ballot; role = Backup }) (whole archive r)
    by true = refl
    by false = refl

asked_same : {S C : Type 0} (O : Type 0) (archive : List C) (r : ReplicaState S C) (lacking : List ℕ) →
    whole_effects archive (activates O r lacking) ≡ whole_activates O (whole archive r) lacking
asked_same O archive r [] = refl
asked_same O archive r (x ∷ lacking) = refl

installed_same : {S C : Type 0} (O : Type 0) (archive : List C) (r : ReplicaState S C) (from ballot : ℕ) →
    IsSame {O = O} archive (on_installed O r from ballot) (whole_on_installed O (whole archive r) from ballot)
unfolding on_installed whole_on_installed
installed_same O archive r from ballot =
    if_same archive ((r.joined == ballot && is_installing r.role) && list_any (λ member. member == from) r.lacking) ((r.joined == ballot && is_installing r.role) && list_any (λ member. member == from) r.lacking) _ _ _ _ refl
    (record { state = refl; effects = asked_same O archive (record r { lacking = others from r.lacking }) (others from r.lacking) }) (same_nothing O archive r)

superseded_same : {S C : Type 0} (O : Type 0) (archive : List C) (r : ReplicaState S C) (ballot : ℕ) →
    IsSame {O = O} archive (on_superseded O r ballot) (whole_on_superseded O (whole archive r) ballot)
unfolding on_superseded whole_on_superseded
superseded_same {S = S} {C = C} O archive r ballot =
    if_same archive (r.joined == ballot && is_installing r.role) (r.joined == ballot && is_installing r.role)
    (record { state = record r { role = Backup }; effects = [] }) _ (record { state = record (whole archive r) { role = Backup }; effects = [] }) _ refl
    (record { state = refl; effects = refl }) (same_nothing O archive r)

activated_same : {S C O : Type 0} (rules : Rules S C O) (archive : List C) (r : ReplicaState S C) (ballot : ℕ) → IsBased archive r →
    IsSame {O = O} archive (on_activated rules r ballot) (whole_on_activated rules (whole archive r) ballot)
unfolding on_activated whole_on_activated
activated_same {S = S} {C = C} {O = O} rules archive r ballot b =
    if_same archive _ _ _ _ _ _
    (ap (λ n. (r.joined == ballot && is_installing r.role) && (nat_le (length r.lacking) 0 && nat_lt n max_places)) (sym long))
    (subst (λ (x : WholeState S C). IsSame {O = O} archive (added rules active (rules.start_of ballot)) (whole_added rules x (rules.start_of ballot))) same
    (added_same rules archive active (rules.start_of ballot) (record { within = b.within; low = omega arith })))
    (same_nothing O archive r)
  where
    long : length (whole_log archive r.log) ≡ places r.log
    long = whole_long archive r.log b.within

    active : ReplicaState S C
    active = record (applied_to rules r (places r.log)) { role = Active; progress = progress_at (places r.log) (others r.id r.members) }

    with_all : ℕ → List C → WholeState S C
    with_all n us = record (whole archive r) { committed = n; machine = replay_from rules r.machine us; role = Active; progress = progress_at n (others r.id r.members) }

    same : whole archive active ≡ with_all (length (whole_log archive r.log)) (drop r.committed (take (length (whole_log archive r.log)) (whole_log archive r.log)))
    same =
        ap (with_all (places r.log)) (sym (whole_part archive r.log r.committed (places r.log) b.within b.low))
        ∙ ap (λ n. with_all n (drop r.committed (take n (whole_log archive r.log)))) (sym long)

-- ---- each message that carries no log

pub plain_same : {S C O : Type 0} (rules : Rules S C O) (archive : List C) (r : ReplicaState S C) (from : ℕ) (body : Body C) →
    IsBased archive r → IsPlainBody body → IsSame {O = O} archive (received rules r from body) (whole_received rules (whole archive r) from (whole_body archive body))
plain_same {O = O} rules archive r from (NewBallot b members a old) based plain = new_ballot_same O archive r b members a old
plain_same {O = O} rules archive r from (Join b a) based plain = join_same O archive r from b a
plain_same rules archive r from (State b log) based plain = absurd plain
plain_same rules archive r from (Install b log) based plain = absurd plain
plain_same {O = O} rules archive r from (Installed b held) based plain = installed_same O archive r from b
plain_same {O = O} rules archive r from (Activate b) based plain = same_nothing O archive r
plain_same rules archive r from (Activated b) based plain = activated_same rules archive r b based
plain_same {O = O} rules archive r from (Superseded b) based plain = superseded_same O archive r b
plain_same {O = O} rules archive r from (Append b place c) based plain = append_same O archive r from b place c based
plain_same rules archive r from (Held b held) based plain = held_same rules archive r from b held based
plain_same rules archive r from (Commit b held) based plain = commits_same rules archive r b held based
