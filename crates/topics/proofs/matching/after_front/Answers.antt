-- The byte with which both begin goes by.
use Rattle.std.proofs.Common.{rules}
use Rattle.topics.proofs.LeftInALoop.{front_step}
use Rattle.topics.proofs.matching.after_front.Goals as goal

pub loop-filter_rest-preserved : goal.loop-filter_rest-preserved
loop-filter_rest-preserved c = record {
  left = front_step c.args.filter.now c.args.topic.now c.loop-filter_rest.filter_rest.now c.loop-filter_rest.topic_rest.now
      (search rules) (search rules) c.if-part-name.false c.loop-filter_rest.invariant.left;
  shorter = search rules;
}
