use Rattle.std.proofs.Common.{length}
use Rattle.rows.proofs.line_reader.+append_fields.Given as goal

abbrev pub decreases-append_fields : goal.decreases-append_fields
decreases-append_fields l = length l.parts.now
