use Rattle.headline.proofs.of_node_group.Ordered.{groups_keep_the_order}
use Rattle.headline.proofs.node_group.theorems.groups_keep_the_order.Goals as goal

pub returns : goal.returns
returns c = groups_keep_the_order
