use Rattle.std.proofs.Common.{sym, ◌∙◌}
use Rattle.world_base.proofs.of_node_core.Answering.{proposed_all, proposed_not}
use Rattle.world_base.proofs.of_node_core.Proposes.{turns_refused, turns_proposed}
use Rattle.world_base.proofs.node_core.stepping_node.SteppingNode.propose.Goals as goal

pub returns-then-not-serves-clause-exact : goal.returns-then-not-serves-clause-exact
returns-then-not-serves-clause-exact c =
    turns_refused _ c.args.command _ (sym c.serves.ensures ∙ c.if-not-serves.true)

pub returns-then-not-serves-clause-lossy : goal.returns-then-not-serves-clause-lossy
returns-then-not-serves-clause-lossy c =
    proposed_not c.args.command _ _ (sym c.serves.ensures ∙ c.if-not-serves.true)

pub returns-clause-exact : goal.returns-clause-exact
returns-clause-exact c =
    turns_proposed _ _ _ c.args.command _ _ _ (sym c.serves.ensures ∙ c.if-not-serves.false)
    c.propose_to_replica-taken.ensures.hears c.handle_all.ensures.exact

pub returns-clause-lossy : goal.returns-clause-lossy
returns-clause-lossy c =
    proposed_all c.propose_to_replica-taken.result c.args.command _ _ _ _ _ _ c.propose_to_replica-taken.ensures.answered c.handle_all.ensures.lossy

pub returns-clause-quiet : goal.returns-clause-quiet
returns-clause-quiet c = λ no_room.
    let refused = c.propose_to_replica-taken.ensures.quiet no_room in
    c.handle_all.ensures.nothing refused.1 ∙ refused.0
