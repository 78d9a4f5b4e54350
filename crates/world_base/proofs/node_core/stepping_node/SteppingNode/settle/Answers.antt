use Rattle.std.proofs.Common.{sym, ◌∙◌}
use Rattle.world_base.proofs.of_node_core.Settles.{settles-idle, settles-serving}
use Rattle.world_base.proofs.node_core.stepping_node.SteppingNode.settle.Goals as goal
use Rattle.world_base.proofs.node_core.stepping_node.SteppingNode.settle.Goals.{then-not-serves, else-not-serves}

pub returns : goal.returns
returns c = elim c.if-not-serves.branch [
  | then-not-serves w ↦ rw (w.self-inside-is, ← c.self.view_is) (settles-idle _ _ _
      (rw (← c.self.view_is) at (sym c.serves.ensures ∙ w.if-not-serves.true)) w.close_each.ensures
      (rw w.self-inside-is at c.keep_listed.ensures))
  | else-not-serves w ↦ rw (w.self-inside-is, ← c.self.view_is) (settles-serving _ _
      (rw (← c.self.view_is) at (sym c.serves.ensures ∙ w.if-not-serves.false))
      (rw w.self-inside-is at c.keep_listed.ensures))
]
