use Rattle.headline.proofs.of_node_group.GroupsHaveMoments.{groups_have_moments}
use Rattle.headline.proofs.node_group.theorems.groups_have_moments.Goals as goal

pub returns : goal.returns
returns c = groups_have_moments
