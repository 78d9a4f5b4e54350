use Rattle.post.proofs.of_outbox.CountsStand.{commits_suffice}
use Rattle.post.proofs.outbox.theorems.later_commits_suffice.Goals as goal

pub returns : goal.returns
returns c = commits_suffice
