use Rattle.headline.proofs.of_node_moves.NamesKeepTheirBallot.{names_keep_their_ballot}
use Rattle.headline.proofs.node_moves.theorems.names_keep_their_ballot.Goals as goal

pub returns : goal.returns
returns c = names_keep_their_ballot
