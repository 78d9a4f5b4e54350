use Rattle.broker_base.proofs.of_rows.CommandOfOwner.{owner_written}
use Rattle.broker_base.proofs.rows.theorems.one_row_is_written.Goals as goal

pub returns : goal.returns
returns c = owner_written
