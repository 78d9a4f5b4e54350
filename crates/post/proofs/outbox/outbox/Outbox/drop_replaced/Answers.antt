use Rattle.std.proofs.Common.{sym, subst}
use Rattle.run_history.specs.Log.{sent_in}
use Rattle.post.specs.outbox.WaitingItems.{Waits}
use Rattle.post.proofs.of_outbox.OutboxKept.{waits_taken}
use Rattle.post.proofs.outbox.outbox.Outbox.drop_replaced.Goals as goal

pub invariant_of-self : goal.invariant_of-self
invariant_of-self g c =
    subst (Waits (sent_in c.self.inside.seen) c.self.inside.number) (sym c.truncate.ensures.items)
    (waits_taken (sent_in c.self.inside.seen) c.self.inside.number _ c.self.inside.items.items c.self.invariant)
