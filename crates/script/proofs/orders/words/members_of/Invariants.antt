use Rattle.std.proofs.Common.{◌≡◌, Some, map, take}
use Rattle.script.specs.Fields.{texts}
use Rattle.script.specs.Orders.{named_node}
use Rattle.script.proofs.orders.words.members_of.Given as goal

abbrev pub invariant-loop-part : goal.invariant-loop-part
invariant-loop-part l = map named_node (take l.part-index (texts l.parts)) ≡ map Some l.numbers.items
