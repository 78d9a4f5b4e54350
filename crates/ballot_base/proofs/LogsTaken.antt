-- LogsTaken.antt: what a replica is once it has taken a log, by what it had to read.
use Rattle.std.proofs.Common.{Bool, Option, ◌⊎◌, inl, inr, ◌∙◌, ◌≡◌, ◌<◌, ◌≤◌, true, false, None, Some, refl, ap, sym}
use Rattle.std.specs.Prelude.{nat_lt, ◌&&◌}
use Rattle.std.proofs.lemmas.Bool.{cases_lt, lt-ltb, le-ltb}
use Rattle.machine.specs.Machine.{Rules}
use Rattle.ballot_base.specs.Logs.{Log}
use Rattle.ballot_base.specs.Replica.{ReplicaState}
use Rattle.ballot_base.specs.TakenLog.{read_into, taken, with_places, with_snapshot}
use Rattle.ballot_base.specs.Unread.{reads_none, stands_for_none}

-- a log whose base is not over the replica's
pub taken-places : {S C O : Type 0} (rules : Rules S C O) (r : ReplicaState S C) (log : Log C) → log.base ≤ r.log.base →
    taken rules r log ≡ Some (with_places r log)
taken-places rules r log low = rw (le-ltb r.log.base log.base low) refl

-- one whose base is, and whose snapshot thaws
pub taken-reads : {S C O : Type 0} (rules : Rules S C O) (r : ReplicaState S C) (log : Log C) (machine : S) → r.log.base < log.base →
    rules.thawed log.snapshot ≡ Some machine → taken rules r log ≡ Some (with_snapshot r log machine)
taken-reads rules r log machine over e = rw (lt-ltb r.log.base log.base over) (ap (read_into r log) e)

-- or for none
pub taken-none : {S C O : Type 0} (rules : Rules S C O) (r : ReplicaState S C) (log : Log C) → r.log.base < log.base →
    rules.thawed log.snapshot ≡ None → taken rules r log ≡ None
taken-none rules r log over e = rw (lt-ltb r.log.base log.base over) (ap (read_into r log) e)

pub reads_none-is : {S C O : Type 0} (rules : Rules S C O) (r : ReplicaState S C) (log : Log C) → r.log.base < log.base →
    rules.thawed log.snapshot ≡ None → reads_none rules r log ≡ true
reads_none-is rules r log over e = rw (lt-ltb r.log.base log.base over) (ap stands_for_none e)

pub reads_none-not : {S C O : Type 0} (rules : Rules S C O) (r : ReplicaState S C) (log : Log C) (machine : S) →
    rules.thawed log.snapshot ≡ Some machine → reads_none rules r log ≡ false
reads_none-not rules r log machine e = ap (λ o. nat_lt r.log.base log.base && stands_for_none o) e ∙ and_false (nat_lt r.log.base log.base)
  where
    and_false : (b : Bool) → (b && false) ≡ false
    and_false true = refl
    and_false false = refl

pub reads_none-low : {S C O : Type 0} (rules : Rules S C O) (r : ReplicaState S C) (log : Log C) → log.base ≤ r.log.base →
    reads_none rules r log ≡ false
reads_none-low rules r log low = rw (le-ltb r.log.base log.base low) refl

-- a replica that took a log has the same number
pub taken-id : {S C O : Type 0} (rules : Rules S C O) (r took : ReplicaState S C) (log : Log C) → taken rules r log ≡ Some took → took.id ≡ r.id
taken-id {S = S} {C = C} rules r took log e = by_base (cases_lt r.log.base log.base)
  where
    same : (z : ReplicaState S C) → Some z ≡ Some took → took ≡ z
    same z f = cc

    by_snapshot : r.log.base < log.base → (o : Option S) → rules.thawed log.snapshot ≡ o → took.id ≡ r.id
    by_snapshot over None f = let g = sym (taken-none rules r log over f) ∙ e in cc
    by_snapshot over (Some machine) f =
        ap (λ (z : ReplicaState S C). z.id) (same (with_snapshot r log machine) (sym (taken-reads rules r log machine over f) ∙ e))

    by_base : (r.log.base < log.base) ⊎ (log.base ≤ r.log.base) → took.id ≡ r.id
    by_base (inl over) = by_snapshot over (rules.thawed log.snapshot) refl
    by_base (inr low) = ap (λ (z : ReplicaState S C). z.id) (same (with_places r log) (sym (taken-places rules r log low) ∙ e))
