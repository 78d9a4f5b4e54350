use Rattle.std.proofs.Common.{length}
use Rattle.program_rows.proofs.command_steps.+append_piece.Given as goal

abbrev pub decreases-append_piece : goal.decreases-append_piece
decreases-append_piece l = length l.fields.now
