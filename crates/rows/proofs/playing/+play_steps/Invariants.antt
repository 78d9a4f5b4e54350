use Rattle.std.proofs.Common.{length}
use Rattle.rows.proofs.playing.+play_steps.Given as goal

abbrev pub decreases-play_steps : goal.decreases-play_steps
decreases-play_steps g l = length l.lines.now
