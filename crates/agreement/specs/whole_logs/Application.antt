-- Applied places of a log, and their outputs.
use Rattle.std.specs.Prelude.{ℕ, ◌+◌, List, [], ◌∷◌, ◌++◌, map, take, drop}
use Rattle.machine.specs.Machine.{Rules, replay, replay_from}
use Rattle.agreement.specs.whole_logs.Messages.{Effect}
use Rattle.agreement.specs.whole_logs.Messages.Effect.{Out}
use Rattle.agreement.specs.whole_logs.Replica.{ReplicaState}

-- the outputs of commands that are done one after another from a state, each with its place
abbrev pub outputs_from : {S C O : Type 0} → Rules S C O → S → ℕ → List C → List (Effect C O)
outputs_from rules state place [] = []
outputs_from rules state place (command ∷ commands) =
    map (Out place) (rules.gives state command)
    ++ outputs_from rules (rules.after state command) (place + 1) commands

-- the outputs of the places from one length of the log up to another
abbrev pub outputs_between : {S C O : Type 0} → Rules S C O → List C → ℕ → ℕ → List (Effect C O)
outputs_between rules log from to =
    outputs_from rules (replay rules (take from log)) from (drop from (take to log))

-- the outputs of the places below `held` that are not yet applied
abbrev pub outputs_to : {S C O : Type 0} → Rules S C O → ReplicaState S C → ℕ → List (Effect C O)
outputs_to rules replica held =
    outputs_from rules replica.machine replica.committed
    (drop replica.committed (take held replica.log))

-- the replica with all places below `held` applied
abbrev pub applied_to : {S C O : Type 0} → Rules S C O → ReplicaState S C → ℕ → ReplicaState S C
applied_to rules replica held =
    record replica {
      committed = held;
      machine = replay_from rules replica.machine (drop replica.committed (take held replica.log));
    }
