use Rattle.recovery.proofs.of_one_node.ComesBack.{kept_sessions_are_welcomed}
use Rattle.recovery.proofs.one_node.theorems.kept_sessions_are_welcomed.Goals as goal

pub returns : goal.returns
returns c = kept_sessions_are_welcomed
