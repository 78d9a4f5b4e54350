use Rattle.std.proofs.Common.{length}
use Rattle.program_rows.proofs.text_steps.+append_fields.Given as goal

abbrev pub decreases-append_fields : goal.decreases-append_fields
decreases-append_fields l = length l.fields.now
