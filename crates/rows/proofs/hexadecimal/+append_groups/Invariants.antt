use Rattle.std.proofs.Common.{length}
use Rattle.rows.proofs.hexadecimal.+append_groups.Given as goal

abbrev pub decreases-append_groups : goal.decreases-append_groups
decreases-append_groups l = length l.groups.now
