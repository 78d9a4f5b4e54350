use Rattle.broker_base.proofs.of_rows.ConnectSteps.{insertion_writes}
use Rattle.broker_base.proofs.rows.connect_theorems.insertion_writes.Goals as goal

pub returns : goal.returns
returns c = insertion_writes
