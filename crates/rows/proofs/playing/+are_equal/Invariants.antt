use Rattle.std.proofs.Common.{length}
use Rattle.rows.proofs.playing.+are_equal.Given as goal

abbrev pub decreases-are_equal : goal.decreases-are_equal
decreases-are_equal l = length l.answers.now
