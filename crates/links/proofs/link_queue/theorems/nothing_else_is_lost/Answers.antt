use Rattle.links.proofs.of_link_queue.Accounted.{nothing_else}
use Rattle.links.proofs.link_queue.theorems.nothing_else_is_lost.Goals as goal

pub returns : goal.returns
returns g c = nothing_else _
