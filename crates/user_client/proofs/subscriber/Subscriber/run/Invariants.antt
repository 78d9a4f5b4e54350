use Rattle.user_client.specs.Subscriber.{PrintsAccepted, listening_anew}
use Rattle.user_client.specs.Losses.{AsksForConnections}
use Rattle.user_client.proofs.subscriber.Subscriber.run.Given as goal

abbrev pub invariant-loop-opened : goal.invariant-loop-opened
invariant-loop-opened g l = record {
  hears : PrintsAccepted (listening_anew l.fn.self) (g.W.Write.contents l.fn.output) l.self (g.W.Write.contents l.output);
  asks : AsksForConnections g.S.Servers.opens g.S.Servers.pauses l.fn.servers l.opened l.servers;
}
