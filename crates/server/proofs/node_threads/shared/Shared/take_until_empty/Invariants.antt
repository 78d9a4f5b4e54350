use Rattle.std.proofs.Common.{◌≡◌}
use Rattle.server.proofs.node_threads.shared.Shared.take_until_empty.Given as goal

abbrev pub invariant-loop : goal.invariant-loop
invariant-loop g l = record {
  can : (goal.iterator-loop g).can_next l.iterator';
  ends : (goal.iterator-loop g).is_finite l.iterator';
  lane : l.lane ≡ l.initial.lane;
}
