use Rattle.post.specs.outbox.Queued.IsOrder.{expels}
use Rattle.post.proofs.peer.Peer.queue_expel.Goals as goal

pub queue_order-requires : goal.queue_order-requires
queue_order-requires g c = expels _
