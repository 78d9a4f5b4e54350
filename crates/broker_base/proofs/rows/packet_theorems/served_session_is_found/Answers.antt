use Rattle.broker_base.proofs.of_rows.ServedStep.{on_its_connection}
use Rattle.broker_base.proofs.rows.packet_theorems.served_session_is_found.Goals as goal

pub returns : goal.returns
returns c = on_its_connection
