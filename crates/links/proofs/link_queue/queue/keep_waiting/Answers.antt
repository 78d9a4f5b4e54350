use Rattle.std.proofs.Common.{rules}
use Rattle.std.proofs.lemmas.Fn.{filter_same}
use Rattle.links.specs.link_queue.Queues.{has_waiting}
use Rattle.links.proofs.link_queue.queue.keep_waiting.Goals as goal

pub returns : goal.returns
returns g c = filter_same _ (λ x. has_waiting c.args.waiting.now x) _ (λ x b f k. search rules) _ _ c.retain.ensures.filtered
