-- Applied places of a log, and their outputs.
use Rattle.std.specs.Prelude.{ℕ, ◌+◌, List, [], ◌∷◌, ◌++◌, map}
use Rattle.machine.specs.Machine.{Rules, replay_from}
use Rattle.ballot_base.specs.Logs.{part}
use Rattle.ballot_base.specs.declared.message.Effect.{Effect}
use Rattle.ballot_base.specs.declared.message.Effect.TheVariants.{Out}
use Rattle.ballot_base.specs.Replica.{ReplicaState}

-- the outputs of commands that are done one after another from a state, each with its place
abbrev pub outputs_from : {S C O : Type 0} → Rules S C O → S → ℕ → List C → List (Effect C O)
outputs_from rules state place [] = []
outputs_from rules state place (command ∷ commands) =
    map (Out place) (rules.gives state command)
    ++ outputs_from rules (rules.after state command) (place + 1) commands

-- the outputs of the places below `held` that are not yet applied
abbrev pub outputs_to : {S C O : Type 0} → Rules S C O → ReplicaState S C → ℕ → List (Effect C O)
outputs_to rules replica held =
    outputs_from rules replica.machine replica.committed (part replica.log replica.committed held)

-- the replica with all places below `held` applied
abbrev pub applied_to : {S C O : Type 0} → Rules S C O → ReplicaState S C → ℕ → ReplicaState S C
applied_to rules replica held =
    record replica {
      committed = held;
      machine = replay_from rules replica.machine (part replica.log replica.committed held);
    }
