use Rattle.headline.proofs.of_node_moves.LossyNames.{lossy_names_keep_their_ballot}
use Rattle.headline.proofs.node_moves.theorems.lossy_names_keep_their_ballot.Goals as goal

pub returns : goal.returns
returns c = lossy_names_keep_their_ballot
