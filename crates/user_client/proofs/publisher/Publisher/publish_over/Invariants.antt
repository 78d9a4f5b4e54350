use Rattle.std.proofs.Common.{◌≡◌, []}
use Rattle.user_client.specs.Traces.{Trace}
use Rattle.user_client.proofs.publisher.Publisher.publish_over.Given as goal

abbrev pub invariant-loop : goal.invariant-loop
invariant-loop g l = Trace l.fn.self.caller [] l.self.caller × (l.self.once ≡ l.fn.self.once)
