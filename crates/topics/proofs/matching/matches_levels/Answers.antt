-- A `+` goes by, and then what both begin with.
use Rattle.std.proofs.Common.{ℕ, List, ◌-◌, length, take, drop, sym, subst, ◌∙◌}
use Rattle.topics.specs.Inside.{IsLeft}
use Rattle.topics.proofs.LeftInALoop.{plus_step, left_then, ends_left}
use Rattle.topics.proofs.matching.matches_levels.Goals as goal

pub after_front-requires-in-loop-filter_rest : goal.after_front-requires-in-loop-filter_rest
after_front-requires-in-loop-filter_rest c =
    rw c.after_level.ensures
    (plus_step c.args.filter.now c.args.topic.now c.loop-filter_rest.filter_rest.now c.loop-filter_rest.topic_rest.now
    (sym c.starts_with.ensures ∙ c.loop-filter_rest-test.true) c.loop-filter_rest.invariant.left).pair

pub loop-filter_rest-preserved : goal.loop-filter_rest-preserved
loop-filter_rest-preserved c =
    let after = take (length c.loop-filter_rest.filter_rest.now - 1) (drop 1 c.loop-filter_rest.filter_rest.now) in
    let plus = plus_step c.args.filter.now c.args.topic.now c.loop-filter_rest.filter_rest.now c.loop-filter_rest.topic_rest.now
    (sym c.starts_with.ensures ∙ c.loop-filter_rest-test.true) c.loop-filter_rest.invariant.left in
    record {
      left = left_then c.args.filter.now c.args.topic.now after c.after_level.result.now
          c.after_front-in-loop-filter_rest.result.0.now c.after_front-in-loop-filter_rest.result.1.now
          (subst (λ (topic_rest : List ℕ). IsLeft c.args.filter.now c.args.topic.now after topic_rest) (sym c.after_level.ensures) plus)
          c.after_front-in-loop-filter_rest.ensures.left;
      apart = c.after_front-in-loop-filter_rest.ensures.apart;
    }

pub returns : goal.returns
returns c =
    ends_left c.args.filter.now c.args.topic.now c.loop-filter_rest.filter_rest.now c.loop-filter_rest.topic_rest.now c.ends_match.result
    c.loop-filter_rest.invariant.left c.loop-filter_rest.invariant.apart
    (sym c.starts_with.ensures ∙ c.loop-filter_rest-test.false) c.ends_match.ensures
