-- The outcome of a step: the replica after it, and its effects.
use Rattle.std.specs.Prelude.{ℕ, Bool, true, false, List, [], ◌++◌, map}
use Rattle.ballot_base.specs.declared.message.Body.{Body}
use Rattle.ballot_base.specs.declared.message.Effect.{Effect}
use Rattle.ballot_base.specs.declared.message.Effect.TheVariants.{To, Out}
use Rattle.ballot_base.specs.declared.status.Progress.{Progress}
use Rattle.ballot_base.specs.Replica.{ReplicaState}

-- the replica after a step, and the effects of the step
pub record Outcome (S C O : Type 0) : Type 0 where
  pub state : ReplicaState S C
  pub effects : List (Effect C O)

-- nothing changes and there are no effects
abbrev pub nothing_done : {S C : Type 0} (O : Type 0) → ReplicaState S C → Outcome S C O
nothing_done O replica = record { state = replica; effects = [] }

-- whether an effect is a message, and not an output
abbrev pub is_message : {C O : Type 0} → Effect C O → Bool
is_message (To receiver message) = true
is_message (Out place output) = false

-- a message of this replica to a node
abbrev pub message_to : {C : Type 0} (O : Type 0) → ℕ → Body C → ℕ → Effect C O
message_to O id body receiver = To receiver (record { from = id; body = body })

-- a message of this replica to each of several nodes
abbrev pub message_to_each : {C : Type 0} (O : Type 0) → ℕ → Body C → List ℕ → List (Effect C O)
message_to_each O id body receivers = map (message_to O id body) receivers

-- to each node whose progress is kept
abbrev pub message_to_followed : {C : Type 0} (O : Type 0) →
    ℕ → Body C → List Progress → List (Effect C O)
message_to_followed O id body progress =
    map (λ reached. message_to O id body reached.member) progress

-- an outcome after messages that were sent first
abbrev pub sent_first : {S C O : Type 0} → List (Effect C O) → Outcome S C O → Outcome S C O
sent_first effects outcome = record { state = outcome.state; effects = effects ++ outcome.effects }

-- the number by which the master is named
abbrev pub master : ℕ
master = 0
