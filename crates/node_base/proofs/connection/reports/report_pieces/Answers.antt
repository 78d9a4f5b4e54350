use Rattle.std.proofs.Common.{refl, sym, subst, ◌∙◌}
use Rattle.node_base.proofs.of_connection.PiecesJoin.{ends_behind, none_for_memory, none_yet, one_more, refused}
use Rattle.node_base.proofs.connection.reports.report_pieces.Goals as goal

pub returns-in_default-clause-hears : goal.returns-in_default-clause-hears
returns-in_default-clause-hears g c = none_for_memory _ _ _ _

pub loop-init : goal.loop-init
loop-init g c = record { can = tt; ends = tt; heard = none_yet _ _ _ _; faults = refl }

pub returns-in-Err-clause-hears : goal.returns-in-Err-clause-hears
returns-in-Err-clause-hears g c =
    ends_behind _ _ _ _ _ _ _ _ _ _ c.loop.invariant.heard c.in-Err.ensures.hears

pub loop-preserved : goal.loop-preserved
loop-preserved g c = record {
  can = tt;
  ends = tt;
  heard = one_more _ _ _ _ _ _ _ _ _ _ c.loop.invariant.heard c.in-Ok-report_piece.ensures.hears;
  faults = c.in-Ok-report_piece.ensures.faults ∙ c.loop.invariant.faults;
}

pub returns-then-not-let_in-clause-hears : goal.returns-then-not-let_in-clause-hears
returns-then-not-let_in-clause-hears g c = refused _ _ _ _

pub returns-then-not-let_in-clause-let_in : goal.returns-then-not-let_in-clause-let_in
returns-then-not-let_in-clause-let_in g c = record {
  sink = c.args.sink.now;
  answered = subst (g.H.ReportSink.lets c.args.sink.now) c.if-not-let_in.true c.let_in.ensures;
}

pub returns-in_default-clause-let_in : goal.returns-in_default-clause-let_in
returns-in_default-clause-let_in g c = record {
  sink = c.args.sink.now;
  answered = subst (g.H.ReportSink.lets c.args.sink.now) c.if-not-let_in.false c.let_in.ensures;
}

pub returns-in-Err-clause-let_in : goal.returns-in-Err-clause-let_in
returns-in-Err-clause-let_in g c = record {
  sink = c.args.sink.now;
  answered = subst (g.H.ReportSink.lets c.args.sink.now) (c.if-not-let_in.false ∙ sym c.in-Err.ensures.read) c.let_in.ensures;
}
