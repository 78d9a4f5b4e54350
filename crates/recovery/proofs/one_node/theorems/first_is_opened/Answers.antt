use Rattle.recovery.proofs.of_one_node.FirstOpened.{first_is_opened}
use Rattle.recovery.proofs.one_node.theorems.first_is_opened.Goals as goal

pub returns : goal.returns
returns c = first_is_opened
