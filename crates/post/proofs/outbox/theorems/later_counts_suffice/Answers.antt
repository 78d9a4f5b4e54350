use Rattle.post.proofs.of_outbox.CountsStand.{counts_suffice}
use Rattle.post.proofs.outbox.theorems.later_counts_suffice.Goals as goal

pub returns : goal.returns
returns c = counts_suffice
