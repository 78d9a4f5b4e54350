use Rattle.std.proofs.lemmas.Result.{err_from_is_err_and}
use Rattle.session_base.proofs.ReadingLoops.{ends, goes_on, stops_so, refused_so}
use Rattle.broker_base.specs.form.Form.{row_at}
use Rattle.broker_base.specs.form.Follows.{row_follows}
use Rattle.broker.proofs.rows.read_rows.Goals as goal

pub returns-in_err-client-clause-exact : goal.returns-in_err-client-clause-exact
returns-in_err-client-clause-exact c =
    let p = err_from_is_err_and c.from_residual.result c.from_residual.ensures.1 in
    rw (p.1, p.2) (stops_so row_follows (row_at c.args.window) c.args.count c.loop.counter c.loop.rows.sessions.entries c.loop.reader _ _ c.loop-test.true c.loop.invariant.0 c.in_err-client.ensures)

pub returns-in_err-add-clause-exact : goal.returns-in_err-add-clause-exact
returns-in_err-add-clause-exact c =
    let p = err_from_is_err_and c.from_residual-in_err-add.result c.from_residual-in_err-add.ensures.1 in
    rw (p.1, p.2) (refused_so row_follows (row_at c.args.window) c.args.count c.loop.counter c.loop.rows.sessions.entries _ c.loop.reader _ _ _ _ c.loop-test.true c.loop.invariant.0 c.in_ok-client.ensures c.in_err-add.ensures.adds)

pub loop-preserved : goal.loop-preserved
loop-preserved c = (
  goes_on row_follows (row_at c.args.window) c.args.count c.loop.counter c.loop.rows.sessions.entries _ c.loop.reader _ _ _ c.loop-test.true c.loop.invariant.0 c.in_ok-client.ensures
      c.in_ok-add.ensures.adds.0 c.in_ok-add.ensures.adds.1,
  c.in_ok-add.ensures.owned,
)

pub returns-clause-exact : goal.returns-clause-exact
returns-clause-exact c = ends row_follows (row_at c.args.window) c.args.count c.loop.counter c.loop.rows.sessions.entries c.loop.reader _ c.loop-test.false c.loop.invariant.0
