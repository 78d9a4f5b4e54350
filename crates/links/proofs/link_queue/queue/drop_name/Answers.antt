use Rattle.std.proofs.Common.{rules}
use Rattle.std.proofs.lemmas.Fn.{filter_same}
use Rattle.links.specs.link_queue.Queues.{stays}
use Rattle.links.proofs.link_queue.queue.drop_name.Goals as goal

pub returns : goal.returns
returns g c = filter_same _ (λ x. stays c.args.waiting.now c.args.name x) _ (λ x b f k. search rules) _ _ c.retain.ensures.filtered
