use Rattle.broker_base.proofs.of_rows.publications.RoomInTurn.{room_lasts}
use Rattle.broker_base.proofs.rows.publish_theorems.room_lasts_to_its_turn.Goals as goal

pub returns : goal.returns
returns c = room_lasts
