use Rattle.world_base.proofs.of_node_core.Delivering.{delivered_message, delivered_output}
use Rattle.world_base.proofs.node_core.stepping_node.SteppingNode.handle.Goals as goal

pub returns-in-Out-clause-lossy : goal.returns-in-Out-clause-lossy
returns-in-Out-clause-lossy c =
    rw c.in-Out.is (delivered_output c.in-Out.field-0 c.in-Out.output c.args.self.now.core c.perform.new.self.core c.args.effects.now.items c.perform.ensures.lossy)

pub returns-then-is_err-clause-lossy : goal.returns-then-is_err-clause-lossy
returns-then-is_err-clause-lossy c =
    rw (c.in-To.is, ← c.self.view_is) (delivered_message c.in-To.receiver c.in-To.message _ _ c.args.effects.now.items c.push.new.self.items c.push.ensures.items)

pub returns-else-is_err-clause-lossy : goal.returns-else-is_err-clause-lossy
returns-else-is_err-clause-lossy c =
    rw c.in-To.is (delivered_message c.in-To.receiver c.in-To.message _ c.args.self.now.core c.args.effects.now.items c.push.new.self.items c.push.ensures.items)
