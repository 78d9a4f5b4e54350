use Rattle.std.proofs.Common.{◌≡◌, drop}
use Rattle.admin.specs.View.{held_by_primary}
use Rattle.admin.proofs.view.AdminView.primary_held.Given as goal

abbrev pub invariant-loop-node : goal.invariant-loop-node
invariant-loop-node l = held_by_primary l.self.nodes.items ≡ held_by_primary (drop l.node-index l.node-items)
