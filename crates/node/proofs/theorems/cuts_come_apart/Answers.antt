use Rattle.node.proofs.CutsApart.{cuts_apart}
use Rattle.node.proofs.theorems.cuts_come_apart.Goals as goal

pub returns : goal.returns
returns c = cuts_apart
