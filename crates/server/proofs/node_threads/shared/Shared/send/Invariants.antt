use Rattle.std.proofs.Common.{◌≡◌}
use Rattle.mailbox.specs.Ends.{unmet}
use Rattle.server.proofs.node_threads.shared.Shared.send.Given as goal

abbrev pub invariant-loop : goal.invariant-loop
invariant-loop g l = record {
  can : (goal.iterator-loop g).can_next l.iterator';
  ends : (goal.iterator-loop g).is_finite l.iterator';
  item : l.unsent ≡ l.initial.unsent;
  lane : unmet l.lane ≡ unmet l.initial.lane;
}
