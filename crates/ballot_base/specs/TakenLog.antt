-- How a replica takes a log that it is sent.
use Rattle.std.specs.Prelude.{◌-◌, max, drop, Option, Some, None, nat_lt, if◌then◌else◌}
use Rattle.machine.specs.Machine.{Rules}
use Rattle.ballot_base.specs.Logs.{Log}
use Rattle.ballot_base.specs.Replica.{ReplicaState}

-- from a log whose base is not above the replica's, the places from the replica's base on are taken
abbrev pub with_places : {S C : Type 0} → ReplicaState S C → Log C → ReplicaState S C
with_places replica log =
    record replica {
      log = record replica.log { rest = drop (replica.log.base - log.base) log.rest };
    }

-- any other log is taken whole. If its base is above what is applied, the machine of the snapshot
-- is taken, and the places below the base count as applied.
abbrev pub with_snapshot : {S C : Type 0} → ReplicaState S C → Log C → S → ReplicaState S C
with_snapshot replica log machine =
    record replica {
      log = log;
      committed = max replica.committed log.base;
      machine = if nat_lt replica.committed log.base then machine else replica.machine;
    }

-- a log is taken only if its snapshot is read
abbrev pub read_into : {S C : Type 0} →
    ReplicaState S C → Log C → Option S → Option (ReplicaState S C)
read_into replica log None = None
read_into replica log (Some machine) = Some (with_snapshot replica log machine)

-- the replica once it has taken a log; none if a snapshot had to be read that does not thaw
abbrev pub taken : {S C O : Type 0} →
    Rules S C O → ReplicaState S C → Log C → Option (ReplicaState S C)
taken rules replica log =
    if nat_lt replica.log.base log.base
    then read_into replica log (rules.thawed log.snapshot)
    else Some (with_places replica log)
