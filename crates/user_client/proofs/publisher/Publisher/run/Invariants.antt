use Rattle.std.proofs.Common.{◌≡◌, []}
use Rattle.user_client.specs.Losses.{AsksForConnections}
use Rattle.user_client.specs.Traces.{Trace}
use Rattle.user_client.proofs.publisher.Publisher.run.Given as goal

abbrev pub invariant-loop-opened : goal.invariant-loop-opened
invariant-loop-opened g l =
    Trace l.fn.self.caller [] l.self.caller
    × (l.self.once ≡ l.fn.self.once)
    × AsksForConnections g.S.Servers.opens g.S.Servers.pauses l.fn.servers l.opened l.servers
