-- The messages among the effects of a node's steps, queued one by one.
use Rattle.std.specs.Prelude.{List, [], ◌∷◌, ◌++◌}
use Rattle.broker_spec.specs.declared.command.Command.{Command}
use Rattle.broker_spec.specs.declared.command.Output.{Output}
use Rattle.ballot_base.specs.declared.message.Effect.{Effect}
use Rattle.ballot_base.specs.declared.message.Effect.TheVariants.{To, Out}
use Rattle.post.specs.outbox.Given.{Addressed}

-- the messages among effects, in order
abbrev pub messages_of : List (Effect Command Output) → List Addressed
messages_of [] = []
messages_of (To receiver message ∷ effects) =
    record { receiver = receiver; message = message } ∷ messages_of effects
messages_of (Out place output ∷ effects) = messages_of effects

-- these messages were queued, one after another, each once, and nothing else
pub data QueuesAll {X : Type 0} (queues : X → Addressed → X → Type 0) (before : X)
    : List Addressed → X → Type 0 where
  -- no message
  none : QueuesAll queues before [] before
  -- one more message
  one_more : {messages : List Addressed} {between : X} (addressed : Addressed) (after : X)
      → QueuesAll queues before messages between
      → queues between addressed after
      → QueuesAll queues before (messages ++ addressed ∷ []) after
