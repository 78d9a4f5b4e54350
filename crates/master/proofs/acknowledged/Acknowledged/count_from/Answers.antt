use Rattle.std.proofs.Common.{◌<◌, ◌≤◌, get_or, length, refl, ◌∙◌, arith}
use Rattle.std.proofs.lemmas.List.{get_or_default}
use Rattle.master.proofs.Groups.{counted_next, counted_all}
use Rattle.master.proofs.acknowledged.Acknowledged.count_from.Goals as goal

pub loop-at-init : goal.loop-at-init
loop-at-init g c = (refl, λ h. h)

pub loop-at-preserved : goal.loop-at-preserved
loop-at-preserved g c =
    let below : c.loop-at.at < length c.args.sent.now = c.loop-at-test.true in
    let x = get_or c.args.sent.now c.loop-at.at c.index-sent-at.result in (
      c.count_message.ensures.ballot ∙ c.loop-at.invariant.0,
      λ h. counted_next c.args.sent.now c.loop-at.at x c.loop-at.self c.count_message.new.self below (get_or_default c.args.sent.now c.loop-at.at c.index-sent-at.result x below)
          c.count_message.ensures.ballot c.count_message.ensures.counted (c.loop-at.invariant.1 h),
    )

pub returns-clause-ballot : goal.returns-clause-ballot
returns-clause-ballot g c = c.loop-at.invariant.0

pub returns-clause-counted : goal.returns-clause-counted
returns-clause-counted g c =
    let past : length c.args.sent.now ≤ c.loop-at.at = omega (arith, c.loop-at-test.false) in
    λ h. counted_all c.args.sent.now c.loop-at.at c.loop-at.self past (c.loop-at.invariant.1 h)
