-- What the turns of a node give.
use Rattle.std.specs.Prelude.{List, []}
use Rattle.broker_spec.specs.declared.command.Command.{Command}
use Rattle.broker_spec.specs.declared.command.Output.{Output}
use Rattle.ballot_base.specs.declared.message.Effect.{Effect}
use Rattle.node.specs.State.{NodeStateView, TakesOne, next_taking}

-- One item after another was taken, from this state of a node on, and these are all effects of the
-- steps, in order; or no item waited.
pub data Turns (old : NodeStateView) : NodeStateView → List (Effect Command Output) → Type 0 where
  -- no item was taken yet
  begins : Turns old old []
  -- one item is taken
  takes : {seen : NodeStateView} {given : List (Effect Command Output)}
      (next : NodeStateView) (after : List (Effect Command Output))
      → Turns old seen given → TakesOne seen next given after → Turns old next after
  -- no item waits
  finds_none : {seen : NodeStateView} {given : List (Effect Command Output)}
      → Turns old seen given → Turns old (record seen { takings = next_taking seen.takings }) given
