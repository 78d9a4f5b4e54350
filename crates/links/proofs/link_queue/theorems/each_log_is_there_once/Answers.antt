use Rattle.links.proofs.of_link_queue.LogsThere.{each_once, repeated_there}
use Rattle.links.proofs.link_queue.theorems.each_log_is_there_once.Goals as goal

pub returns-clause-once : goal.returns-clause-once
returns-clause-once g c = each_once _

pub returns-clause-repeated : goal.returns-clause-repeated
returns-clause-repeated g c = repeated_there _
