use Rattle.std.proofs.Common.{rules}
use Rattle.post.specs.GivenMessages.QueuesAll.{none}
use Rattle.post.proofs.QueuesJoin.{queues_more}
use Rattle.post.proofs.given_effects.queue_each.Goals as goal

pub loop-effect-init : goal.loop-effect-init
loop-effect-init g c = record { given = search rules; queued = none }

pub loop-effect-preserved : goal.loop-effect-preserved
loop-effect-preserved g c = record {
  given = search rules;
  queued = queues_more _ _ _ _ c.loop-effect.yielded c.in-Some.effect c.loop-effect.invariant.queued c.queue_one.ensures;
}
