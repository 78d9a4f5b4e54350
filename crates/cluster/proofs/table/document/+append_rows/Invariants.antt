-- The list of values gets shorter.
use Rattle.std.proofs.Common.{length}
use Rattle.cluster.proofs.table.document.+append_rows.Given as goal

abbrev pub decreases-append_rows : goal.decreases-append_rows
decreases-append_rows l = length l.values.now
