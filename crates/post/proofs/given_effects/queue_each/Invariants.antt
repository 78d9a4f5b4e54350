use Rattle.std.specs.Vec.Iter.{into_iter_items}
use Rattle.run_history.specs.Log.{sent_in}
use Rattle.run_history.specs.Sending.{AllSent}
use Rattle.post.specs.GivenMessages.{QueuesAll, messages_of}
use Rattle.post.proofs.given_effects.queue_each.Given as goal

abbrev pub invariant-loop-effect : goal.invariant-loop-effect
invariant-loop-effect g l = record {
  given : AllSent (sent_in l.seen) (into_iter_items l.effect-iterator);
  queued : QueuesAll g.C.Receivers.queues l.initial.receivers (messages_of l.yielded) l.receivers;
}
