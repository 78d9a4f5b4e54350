use Rattle.std.proofs.Common.{length}
use Rattle.client.specs.Input.{Handles}
use Rattle.client.proofs.client_core.ClientCore.read_all.Given as goal

abbrev pub invariant-loop : goal.invariant-loop
invariant-loop l = Handles l.initial.self l.self

abbrev pub decreases-loop : goal.decreases-loop
decreases-loop l = length l.self.unread.bytes
