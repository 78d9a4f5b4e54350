-- The number that was free names an empty node.
use Rattle.subs.proofs.ChangedSlot.{opened}
use Rattle.subs.proofs.slots.add_node.Goals as goal

pub returns-clause-adds : goal.returns-clause-adds
returns-clause-adds c =
    opened c.args.nodes.now c.insert.new.self c.in_ok-number.number c.new.result c.in_ok-number.ensures.was_vacant c.in_ok-number.ensures.updates c.new.ensures
