use Rattle.user_client.specs.Subscriber.{PrintsAccepted}
use Rattle.user_client.proofs.subscriber.Subscriber.print_over.Given as goal

abbrev pub invariant-loop : goal.invariant-loop
invariant-loop g l = PrintsAccepted l.fn.self (g.W.Write.contents l.fn.output) l.self (g.W.Write.contents l.output)
