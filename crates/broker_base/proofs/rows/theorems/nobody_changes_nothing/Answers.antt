use Rattle.broker_base.proofs.of_rows.CommandOfNobody.{nobody_stays}
use Rattle.broker_base.proofs.rows.theorems.nobody_changes_nothing.Goals as goal

pub returns : goal.returns
returns c = nobody_stays
