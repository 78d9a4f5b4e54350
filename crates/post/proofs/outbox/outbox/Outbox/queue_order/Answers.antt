use Rattle.std.proofs.Common.{sym, subst}
use Rattle.run_history.specs.Log.{sent_in}
use Rattle.post.specs.outbox.Queued.{IsPosted}
use Rattle.post.specs.outbox.Queued.IsPosted.{ordered}
use Rattle.post.proofs.of_outbox.OutboxKept.{order_is_sent}
use Rattle.post.proofs.outbox.outbox.Outbox.queue_order.Goals as goal

pub new-order-requires : goal.new-order-requires
new-order-requires g c = order_is_sent _ _ _ c.requires

pub push-requires : goal.push-requires
push-requires g c = subst (IsPosted (sent_in c.again-known.result) c.args.self.now.number) (sym c.new-order.ensures) (ordered c.requires)
