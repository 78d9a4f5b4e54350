-- How a replica cuts its log.
use Rattle.std.specs.Prelude.{◌-◌, Bool, not, drop, ◌&&◌, nat_lt}
use Rattle.machine.specs.Machine.{Rules}
use Rattle.ballot_base.specs.Replica.{ReplicaState}

-- there is something to cut if the replica runs and what is applied is above its base
abbrev pub can_cut : {S C : Type 0} → ReplicaState S C → Bool
can_cut replica = not replica.stopped && nat_lt replica.log.base replica.committed

-- the snapshot is the frozen machine, and the places below what is applied are dropped. Nothing is
-- sent.
abbrev pub cut : {S C O : Type 0} → Rules S C O → ReplicaState S C → ReplicaState S C
cut rules replica =
    record replica {
      log = record {
        base = replica.committed;
        snapshot = rules.frozen replica.machine;
        rest = drop (replica.committed - replica.log.base) replica.log.rest;
      };
    }
