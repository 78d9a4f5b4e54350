use Rattle.broker_base.proofs.of_rows.publications.CopiesInParts.{copies_join, copies_take_room, copies_find_room}
use Rattle.broker_base.proofs.rows.copy_theorems.copies_in_parts.Goals as goal

pub returns : goal.returns
returns c = record { joins = copies_join; room = copies_take_room; enough = copies_find_room }
