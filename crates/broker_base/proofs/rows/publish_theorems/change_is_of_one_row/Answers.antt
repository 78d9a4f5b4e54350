use Rattle.broker_base.proofs.of_rows.publications.OneChanged.{change_is_of_one_row}
use Rattle.broker_base.proofs.rows.publish_theorems.change_is_of_one_row.Goals as goal

pub returns : goal.returns
returns c = change_is_of_one_row
