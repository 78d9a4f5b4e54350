-- The items so far, with those that are left, are all items.
use Rattle.std.proofs.Common.{◌≡◌}
use Rattle.packet_base.specs.Lists.{items_at}
use Rattle.packet_base.proofs.ItemsInALoop.{prefixed, left_after, Began}
use Rattle.packet_base.proofs.packet_list.read_items.Given as goal

abbrev pub invariant-loop : goal.invariant-loop
invariant-loop g l =
    (prefixed l.items.items (left_after g.T.ListItem.item_at l.end l.counter l.body)
    ≡ items_at g.T.ListItem.item_at l.fn.body)
    × Began g.T.ListItem.item_at l.fn.body l.body
