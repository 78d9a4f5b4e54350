use Rattle.session_base.proofs.FillsOfQueues as fills
use Rattle.session_base.proofs.CopiesOneByOne.{copies_are_one_fill}
use Rattle.session_base.proofs.theorems.fills_join.Goals as goal

pub returns : goal.returns
returns c = record { two = fills.fills_join; copies = copies_are_one_fill }
