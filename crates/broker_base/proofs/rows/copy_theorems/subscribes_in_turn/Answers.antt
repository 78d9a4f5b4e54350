use Rattle.broker_base.proofs.of_rows.publications.SubscribesInTurn.{subscribes}
use Rattle.broker_base.proofs.rows.copy_theorems.subscribes_in_turn.Goals as goal

pub returns : goal.returns
returns c = subscribes
