use Rattle.std.proofs.lemmas.Result.{err_from_is_err_and}
use Rattle.session_base.proofs.ReadingLoops.{ends, goes_on, stops_so, refused_so}
use Rattle.session_base.specs.Form.{is_above}
use Rattle.packet_base.specs.Readers.{id_at}
use Rattle.session.proofs.form_readers.read_ids.Goals as goal

pub returns-in_err-id : goal.returns-in_err-id
returns-in_err-id c =
    let p = err_from_is_err_and c.from_residual.result c.from_residual.ensures.1 in
    rw (p.1, p.2) (stops_so is_above id_at c.args.count c.loop.counter c.loop.read c.loop.reader _ _ c.loop-test.true c.loop.invariant c.in_err-id.ensures.exact)

pub loop-preserved : goal.loop-preserved
loop-preserved c =
    goes_on is_above id_at c.args.count c.loop.counter c.loop.read _ c.loop.reader _ _ _ c.loop-test.true c.loop.invariant c.in_ok-id.ensures.exact
    c.in_ok-add.ensures.0 c.in_ok-add.ensures.1

pub returns : goal.returns
returns c = ends is_above id_at c.args.count c.loop.counter c.loop.read c.loop.reader _ c.loop-test.false c.loop.invariant

pub returns-in_err-add : goal.returns-in_err-add
returns-in_err-add c =
    let p = err_from_is_err_and c.from_residual-in_err-add.result c.from_residual-in_err-add.ensures.1 in
    rw (p.1, p.2) (refused_so is_above id_at c.args.count c.loop.counter c.loop.read _ c.loop.reader _ _ _ _ c.loop-test.true c.loop.invariant c.in_ok-id.ensures.exact c.in_err-add.ensures)
