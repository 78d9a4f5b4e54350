use Rattle.broker_base.proofs.of_rows.publications.RoomOfGranted.{full_of_granted}
use Rattle.broker_base.proofs.rows.theorems.room_is_of_granted_rows.Goals as goal

pub returns : goal.returns
returns c = full_of_granted
