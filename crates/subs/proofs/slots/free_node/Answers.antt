-- The number that is free named an empty node.
use Rattle.subs.proofs.ChangedSlot.{closed}
use Rattle.subs.proofs.slots.free_node.Goals as goal

pub returns : goal.returns
returns c = closed c.args.nodes.now c.try_remove.new.self c.args.at.number c.try_remove.ensures.updates c.requires
