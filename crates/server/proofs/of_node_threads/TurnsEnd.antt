-- TurnsEnd.antt: how turns of a node begin, and how they end if no item waits.
use Rattle.std.proofs.Common.{◌≡◌, List, [], sym, subst}
use Rattle.broker_spec.specs.declared.command.Command.{Command}
use Rattle.broker_spec.specs.declared.command.Output.{Output}
use Rattle.ballot_base.specs.declared.message.Effect.{Effect}
use Rattle.node.specs.State.{NodeStateView, next_taking}
use Rattle.run_history.specs.Log.{sent_in}
use Rattle.run_history.specs.Sending.{AllSent}
use Rattle.server.specs.node_threads.Turns.{Turns}
use Rattle.server.specs.node_threads.Turns.Turns.{begins, finds_none}

-- nothing was given yet
pub given_none : (node : NodeStateView) (given : List (Effect Command Output)) → given ≡ [] → AllSent (sent_in node.log) given × Turns node node given
given_none node given none = subst (λ (l : List (Effect Command Output)). AllSent (sent_in node.log) l × Turns node node l) (sym none) (tt, begins)

-- no item waited
pub found_none : (old seen new : NodeStateView) (given after : List (Effect Command Output))
    → Turns old seen given → new ≡ record seen { takings = next_taking seen.takings } → after ≡ given → Turns old new after
found_none old seen new given after turns is same =
    subst (λ (s : NodeStateView). Turns old s after) (sym is)
    (subst (λ (l : List (Effect Command Output)). Turns old (record seen { takings = next_taking seen.takings }) l) (sym same)
    (finds_none turns))
