use Rattle.links.proofs.of_link_queue.Kept.{pushed_now}
use Rattle.links.proofs.link_queue.queue.LinkQueue.push.Goals as goal

pub invariant_of-self-2 : goal.invariant_of-self-2
invariant_of-self-2 g c =
    pushed_now c.args.message c.args.size c.kept-bytes.result.1 c.self.inside.waiting.items c.deref.result.now c.push_covering.new.waiting.items
    c.self.inside.logs.items c.self.inside.dropped c.args.self.now c.self.view_is c.deref.ensures.value
    (c.push_covering.ensures.queued c.if-not-push_covering.false) c.kept-bytes.ensures.bytes c.requires
