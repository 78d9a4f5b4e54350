use Rattle.mailbox.specs.Kept.{TakesMore}
use Rattle.mailbox.proofs.receiver.Receiver.drain.Given as goal

abbrev pub invariant-loop : goal.invariant-loop
invariant-loop g l = TakesMore l.initial.self l.self l.initial.left.items l.left.items
