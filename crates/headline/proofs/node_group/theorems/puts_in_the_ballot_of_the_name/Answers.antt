use Rattle.headline.proofs.of_node_group.NamesInGroups.{puts_in_the_ballot_of_the_name}
use Rattle.headline.proofs.node_group.theorems.puts_in_the_ballot_of_the_name.Goals as goal

pub returns : goal.returns
returns c = puts_in_the_ballot_of_the_name
