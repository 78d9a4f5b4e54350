use Rattle.std.proofs.Common.{length}
use Rattle.program_rows.proofs.command_steps.+append_words.Given as goal

abbrev pub decreases-append_words : goal.decreases-append_words
decreases-append_words l = length l.fields.now
