use Rattle.post.specs.outbox.Queued.IsOrder.{crashes}
use Rattle.post.proofs.peer.Peer.queue_crash.Goals as goal

pub queue_order-requires : goal.queue_order-requires
queue_order-requires g c = crashes
