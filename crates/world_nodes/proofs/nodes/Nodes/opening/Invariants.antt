use Rattle.std.proofs.Common.{◌≡◌}
use Rattle.headline.specs.node_group.Group.{opening_cores}
use Rattle.world_nodes.specs.Nodes.{cores_of}
use Rattle.world_nodes.proofs.nodes.Nodes.opening.Given as goal

abbrev pub invariant-loop-at : goal.invariant-loop-at
invariant-loop-at l = cores_of l.opened.items ≡ opening_cores l.at l.config
