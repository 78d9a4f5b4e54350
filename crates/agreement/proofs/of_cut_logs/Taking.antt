-- Taking.antt: what a replica is after it took a log, and after a cut, on whole logs.
use Rattle.std.proofs.Common.{cond, ◌≡◌, ℕ, ◌<◌, ◌≤◌, max, List, ◌++◌, length, take, ap, ap₂, sym, ◌∙◌, arith}
use Rattle.std.proofs.lemmas.Bool.{lt-ltb, le-ltb}
use Rattle.machine.specs.Machine.{Rules, replay}
use Rattle.agreement.specs.whole_logs.Application.{applied_to as whole_applied_to}
use Rattle.agreement.specs.whole_logs.Replica.{ReplicaState as WholeState}
use Rattle.ballot_base.proofs.AppliesInOrder.{replay_goes_on}
use Rattle.lists.specs.Lists.{IsPrefixOf}
use Rattle.lists.proofs.Prefixes.{take_prefix}
use Rattle.ballot_base.specs.Logs.{Log, places}
use Rattle.agreement.specs.cut_logs.Whole.{whole_log, whole}
use Rattle.agreement.specs.cut_logs.Matches.{IsBased}
use Rattle.ballot_base.specs.Replica.{ReplicaState}
use Rattle.ballot_base.specs.Compaction.{cut}
use Rattle.ballot_base.specs.TakenLog.{with_places, with_snapshot}
use Rattle.agreement.proofs.of_cut_logs.Fronts.{whole_front, whole_long, whole_shorter}

-- its base is not over the replica's: the places below the replica's base are those of the record
pub places_taken : {S C : Type 0} (archive : List C) (r : ReplicaState S C) (log : Log C) → IsBased archive r → log.base ≤ r.log.base →
    r.committed ≤ places log → take r.log.base (whole_log archive log) ≡ take r.log.base archive →
    whole archive (with_places r log) ≡ record (whole archive r) { log = whole_log archive log }
places_taken {S = S} {C = C} archive r log b low long same =
    ap (λ (us : List C). let x : WholeState S C = record (whole archive r) { log = us } in x)
    (whole_shorter archive log.rest log.base r.log.base low b.within
    (let a = whole_long archive log (let c = b.within in omega (arith, low, c)) in let d = b.low in omega (arith, a, long, d)) same)

-- its base is over the replica's, and not over what is applied
pub snapshot_taken : {S C : Type 0} (archive : List C) (r : ReplicaState S C) (log : Log C) (machine : S) → log.base ≤ r.committed →
    whole archive (with_snapshot r log machine) ≡ record (whole archive r) { log = whole_log archive log }
snapshot_taken {S = S} {C = C} archive r log machine low =
    let a : max r.committed log.base ≡ r.committed = omega (arith, low) in
    ap₂ (λ (n : ℕ) (s : S). let x : WholeState S C = record (whole archive r) { log = whole_log archive log; committed = n; machine = s } in x)
    a (ap (λ c. cond c machine r.machine) (le-ltb r.committed log.base low))

-- its base is over what is applied: as if these places were applied, with no outputs
pub snapshot_learned : {S C O : Type 0} (rules : Rules S C O) (archive : List C) (r : ReplicaState S C) (log : Log C) (machine : S) →
    log.base ≤ length archive → r.committed < log.base → machine ≡ replay rules (take log.base archive) →
    r.machine ≡ replay rules (take r.committed (whole_log archive log)) →
    whole archive (with_snapshot r log machine) ≡ whole_applied_to rules (record (whole archive r) { log = whole_log archive log }) log.base
snapshot_learned {S = S} {C = C} rules archive r log machine within over is ran =
    let a : max r.committed log.base ≡ log.base = omega (arith, over) in
    ap₂ (λ (n : ℕ) (s : S). let x : WholeState S C = record (whole archive r) { log = whole_log archive log; committed = n; machine = s } in x)
    a
    (ap (λ c. cond c machine r.machine) (lt-ltb r.committed log.base over)
    ∙ is
    ∙ ap (replay rules) (sym (whole_front archive log within))
    ∙ sym (replay_goes_on rules r.machine (whole_log archive log) r.committed log.base (omega (arith, over)) ran))

-- a cut changes no view, if the record has the places below what is committed
pub cut_stays : {S C O : Type 0} (rules : Rules S C O) (archive : List C) (r : ReplicaState S C) → IsBased archive r → r.committed ≤ length archive →
    r.committed ≤ places r.log → take r.committed (whole_log archive r.log) ≡ take r.committed archive →
    whole archive (cut rules r) ≡ whole archive r
cut_stays {S = S} {C = C} {O = O} rules archive r b within long same =
    ap (λ (us : List C). let x : WholeState S C = record (whole archive r) { log = us } in x)
    (whole_shorter archive r.log.rest r.log.base r.committed b.low within
    (let a = whole_long archive r.log b.within in omega (arith, a, long)) same)

-- a record that continues changes no view
pub longer_record : {S C : Type 0} (archive more : List C) (r : ReplicaState S C) → IsPrefixOf archive more → r.log.base ≤ length archive →
    whole more r ≡ whole archive r
longer_record {S = S} {C = C} archive more r p within =
    ap (λ (us : List C). let x : WholeState S C = record (whole archive r) { log = us ++ r.log.rest } in x) (take_prefix r.log.base p within)
