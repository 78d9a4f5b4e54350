use Rattle.node.proofs.OpenBytes.{open_bytes_counted}
use Rattle.node.proofs.theorems.open_bytes_are_counted.Goals as goal

pub returns : goal.returns
returns c = open_bytes_counted
