use Rattle.std.proofs.Common.{length}
use Rattle.node_rows.proofs.answers.+append_numbers.Given as goal

abbrev pub decreases-append_numbers : goal.decreases-append_numbers
decreases-append_numbers l = length l.numbers.now
