use Rattle.std.proofs.lemmas.Result.{err_from_is_err_and}
use Rattle.session_base.proofs.ReadingLoops.{ends, goes_on, stops_so, refused_so}
use Rattle.session_base.specs.Form.{anything, waiting_at}
use Rattle.session.proofs.form_readers.read_publications.Goals as goal

pub returns-in_err-publication : goal.returns-in_err-publication
returns-in_err-publication c =
    let p = err_from_is_err_and c.from_residual.result c.from_residual.ensures.1 in
    rw (p.1, p.2) (stops_so anything waiting_at c.args.count c.loop.counter c.loop.read.items c.loop.reader _ _ c.loop-test.true c.loop.invariant c.in_err-publication.ensures)

pub loop-preserved : goal.loop-preserved
loop-preserved c =
    goes_on anything waiting_at c.args.count c.loop.counter c.loop.read.items _ c.loop.reader _ _ _ c.loop-test.true c.loop.invariant c.in_ok-publication.ensures
    c.in_ok-add_waiting.ensures.0 c.in_ok-add_waiting.ensures.1

pub returns : goal.returns
returns c = ends anything waiting_at c.args.count c.loop.counter c.loop.read.items c.loop.reader _ c.loop-test.false c.loop.invariant

pub returns-in_err-add_waiting : goal.returns-in_err-add_waiting
returns-in_err-add_waiting c =
    let p = err_from_is_err_and c.from_residual-in_err-add_waiting.result c.from_residual-in_err-add_waiting.ensures.1 in
    rw (p.1, p.2) (refused_so anything waiting_at c.args.count c.loop.counter c.loop.read.items _ c.loop.reader _ _ _ _ c.loop-test.true c.loop.invariant c.in_ok-publication.ensures c.in_err-add_waiting.ensures)
