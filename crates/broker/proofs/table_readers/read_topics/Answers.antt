use Rattle.std.proofs.lemmas.Result.{err_from_is_err_and}
use Rattle.session_base.proofs.ReadingLoops.{ends, goes_on, stops_so, refused_so}
use Rattle.broker_base.specs.form.Form.{retained_at}
use Rattle.broker_base.specs.form.Follows.{topic_follows}
use Rattle.broker.proofs.LastRows.{one_more}
use Rattle.broker.proofs.table_readers.read_topics.Goals as goal

pub returns-in_err-topic : goal.returns-in_err-topic
returns-in_err-topic c =
    let p = err_from_is_err_and c.from_residual.result c.from_residual.ensures.1 in
    rw (p.1, p.2) (stops_so topic_follows retained_at c.args.count c.loop.counter c.loop.retained c.loop.reader _ _ c.loop-test.true c.loop.invariant.0 c.in_err-topic.ensures)

pub loop-preserved : goal.loop-preserved
loop-preserved c = (
  goes_on topic_follows retained_at c.args.count c.loop.counter c.loop.retained _ c.loop.reader _ _ _ c.loop-test.true c.loop.invariant.0 c.in_ok-topic.ensures
      c.in_ok-add_topic.ensures.0 c.in_ok-add_topic.ensures.1,
  one_more c.loop.retained _ _ c.loop.counter c.in_ok-add_topic.ensures.1 c.loop.invariant.1,
)

pub returns : goal.returns
returns c = ends topic_follows retained_at c.args.count c.loop.counter c.loop.retained c.loop.reader _ c.loop-test.false c.loop.invariant.0

pub returns-in_err-add_topic : goal.returns-in_err-add_topic
returns-in_err-add_topic c =
    let p = err_from_is_err_and c.from_residual-in_err-add_topic.result c.from_residual-in_err-add_topic.ensures.1 in
    rw (p.1, p.2) (refused_so topic_follows retained_at c.args.count c.loop.counter c.loop.retained _ c.loop.reader _ _ _ _ c.loop-test.true c.loop.invariant.0 c.in_ok-topic.ensures c.in_err-add_topic.ensures)
