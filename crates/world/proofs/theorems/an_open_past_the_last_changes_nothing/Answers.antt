use Rattle.world.proofs.NamesSpent.{opens_past, room_before}
use Rattle.world.proofs.theorems.an_open_past_the_last_changes_nothing.Goals as goal

pub returns-clause-past : goal.returns-clause-past
returns-clause-past c = opens_past

pub returns-clause-before : goal.returns-clause-before
returns-clause-before c = room_before
