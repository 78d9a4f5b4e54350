use Rattle.std.proofs.Common.{length}
use Rattle.rows.proofs.line_reader.+append_parts.Given as goal

abbrev pub decreases-append_parts : goal.decreases-append_parts
decreases-append_parts l = length l.parts.now
