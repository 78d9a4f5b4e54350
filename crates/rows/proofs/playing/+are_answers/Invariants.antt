use Rattle.std.proofs.Common.{length}
use Rattle.rows.proofs.playing.+are_answers.Given as goal

abbrev pub decreases-are_answers : goal.decreases-are_answers
decreases-are_answers l = length l.answers.now
