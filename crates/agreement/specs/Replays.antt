-- The machine of a node that runs is the replay of the places that it applied.
use Rattle.std.specs.Prelude.{ℕ, false, ◌≡◌, take, slice_get, Some}
use Rattle.machine.specs.Machine.{Rules, replay}
use Rattle.agreement.specs.whole_logs.Replica.{ReplicaState}
use Rattle.agreement.specs.World.{GroupWorld}

-- the machine of one replica is the replay of the places that it applied
abbrev pub IsReplay : {S C O : Type 0} → Rules S C O → ReplicaState S C → Type 0
IsReplay rules replica = replica.machine ≡ replay rules (take replica.committed replica.log)

-- the machine of each replica that has not stopped is the replay of the places that it applied
abbrev pub AreReplays : {S C O : Type 0} → Rules S C O → GroupWorld S C O → Type 0
AreReplays {S} {C} rules world =
    (node : ℕ) (replica : ReplicaState S C) → slice_get world.nodes node ≡ Some replica →
    replica.stopped ≡ false → IsReplay rules replica
