use Rattle.std.proofs.Common.{length}
use Rattle.command_line.proofs.table_text.+are_told_apart.Given as goal

abbrev pub decreases-are_told_apart : goal.decreases-are_told_apart
decreases-are_told_apart l = length l.nodes.now
