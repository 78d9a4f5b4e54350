use Rattle.links.proofs.of_link_queue.Accounted.{in_order}
use Rattle.links.proofs.link_queue.theorems.what_comes_out_is_in_order.Goals as goal

pub returns : goal.returns
returns g c = in_order _
