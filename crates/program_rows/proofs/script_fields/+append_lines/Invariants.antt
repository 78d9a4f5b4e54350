use Rattle.std.proofs.Common.{length}
use Rattle.program_rows.proofs.script_fields.+append_lines.Given as goal

abbrev pub decreases-append_lines : goal.decreases-append_lines
decreases-append_lines l = length l.lines.now
