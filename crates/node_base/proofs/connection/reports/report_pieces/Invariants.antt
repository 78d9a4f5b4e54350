use Rattle.std.specs.Prelude.{◌≡◌}
use Rattle.node_base.specs.connection.Inside.{HearsSome}
use Rattle.node_base.proofs.connection.reports.report_pieces.Given as goal

abbrev pub invariant-loop : goal.invariant-loop
invariant-loop g l = record {
  can : (goal.iterator-loop g).can_next l.iterator';
  ends : (goal.iterator-loop g).is_finite l.iterator';
  heard : HearsSome l.port l.opened l.last (g.H.ReportSink.heard l.initial.sink) (g.H.ReportSink.heard l.sink)
      (g.D.Read.remaining l.initial.device.device) (g.D.Read.remaining l.device.device);
  faults : l.device.faults ≡ l.initial.device.faults;
}
