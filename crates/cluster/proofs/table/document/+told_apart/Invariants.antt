-- The list of rows gets shorter.
use Rattle.std.proofs.Common.{length}
use Rattle.cluster.proofs.table.document.+told_apart.Given as goal

abbrev pub decreases-told_apart : goal.decreases-told_apart
decreases-told_apart l = length l.rows.now
