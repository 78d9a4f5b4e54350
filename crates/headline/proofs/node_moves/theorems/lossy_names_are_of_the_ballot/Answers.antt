use Rattle.headline.proofs.of_node_moves.LossyClosed.{lossy_names_are_of_the_ballot}
use Rattle.headline.proofs.node_moves.theorems.lossy_names_are_of_the_ballot.Goals as goal

pub returns : goal.returns
returns c = lossy_names_are_of_the_ballot
