use Rattle.std.proofs.Common.{◌≡◌}
use Rattle.server_tests.proofs.engines.connections.OneLaneReportSink.report.Given as goal

abbrev pub invariant-loop : goal.invariant-loop
invariant-loop g l = record {
  can : (goal.iterator-loop g).can_next l.iterator';
  ends : (goal.iterator-loop g).is_finite l.iterator';
  item : l.unsent ≡ l.initial.unsent;
  lane : l.self.lane ≡ l.initial.self.lane;
}
