use Rattle.std.proofs.Common.{length}
use Rattle.rows.proofs.line.+steps_len.Given as goal

abbrev pub decreases-steps_len : goal.decreases-steps_len
decreases-steps_len l = length l.lines.now
