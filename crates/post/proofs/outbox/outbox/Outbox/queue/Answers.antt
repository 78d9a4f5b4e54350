use Rattle.std.proofs.Common.{ℕ, sym, subst}
use Rattle.lists.specs.Lists.{In}
use Rattle.run_history.specs.Log.{sent_in}
use Rattle.post.specs.outbox.Queued.{IsPosted}
use Rattle.post.specs.outbox.Queued.IsPosted.{sent_to}
use Rattle.post.proofs.outbox.outbox.Outbox.queue.Goals as goal

pub push-requires : goal.push-requires
push-requires g c =
    subst (IsPosted (sent_in c.item_of-item.result.1) c.args.self.now.number) (sym c.item_of-item.ensures.item)
    (sent_to c.args.message.message
    (subst (λ (n : ℕ). In (n, c.args.message.message) (sent_in c.item_of-item.result.1)) c.requires c.item_of-item.ensures.sent))
