use Rattle.std.proofs.Common.{Some, ap, sym, ◌∙◌}
use Rattle.run_history.specs.Log.{sent_in}
use Rattle.run_history.proofs.LongerLogs.{in_later}
use Rattle.post.specs.Linked.{RouteView}
use Rattle.post.proofs.LinkKept.{sent_after, sent_later}
use Rattle.post.proofs.linked.route_queue.RouteQueue.queue.Goals as goal

pub invariant_of-self : goal.invariant_of-self
invariant_of-self g c =
    let inside = c.self.inside in
    let parts = c.into_parts-receiver in
    let later = c.learn.new.self in
    sent_after (sent_in later) inside.leads parts.result.0 inside.queue c.queue-fate.new.self parts.result.1 c.payload_of-size.result c.queue-fate.result
    (ap (λ (route : RouteView). route.leads) c.self.view_is ∙ (c.requires ∙ ap Some (sym parts.ensures.receiver)))
    (in_later (parts.result.0, parts.result.1) parts.result.2 later c.learn.ensures.that parts.ensures.sent)
    c.queue-fate.ensures.queued c.queue-fate.ensures.lost
    (sent_later inside.seen later inside.leads inside.queue.waiting c.learn.ensures.this c.self.invariant)
