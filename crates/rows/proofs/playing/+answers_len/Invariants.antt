use Rattle.std.proofs.Common.{length}
use Rattle.rows.proofs.playing.+answers_len.Given as goal

abbrev pub decreases-answers_len : goal.decreases-answers_len
decreases-answers_len l = length l.lines.now
