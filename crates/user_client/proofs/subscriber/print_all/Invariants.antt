use Rattle.std.proofs.Common.{take}
use Rattle.user_client.specs.Subscriber.{Shows}
use Rattle.user_client.proofs.subscriber.print_all.Given as goal

abbrev pub invariant-loop-one : goal.invariant-loop-one
invariant-loop-one g l =
    Shows (take l.one-index l.accepted) l.left l.rest (g.W.Write.contents l.fn.output) (g.W.Write.contents l.output)
