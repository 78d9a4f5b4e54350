use Rattle.node.proofs.CutsApart.{cuts_often}
use Rattle.node.proofs.theorems.cuts_come_often.Goals as goal

pub returns : goal.returns
returns c = cuts_often
