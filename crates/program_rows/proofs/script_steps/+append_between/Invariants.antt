use Rattle.std.proofs.Common.{length}
use Rattle.program_rows.proofs.script_steps.+append_between.Given as goal

abbrev pub decreases-append_between : goal.decreases-append_between
decreases-append_between l = length l.lines.now
