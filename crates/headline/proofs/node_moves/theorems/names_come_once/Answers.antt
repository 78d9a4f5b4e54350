use Rattle.headline.proofs.of_node_moves.NamesComeOnce.{names_come_once}
use Rattle.headline.proofs.node_moves.theorems.names_come_once.Goals as goal

pub returns : goal.returns
returns c = names_come_once
