use Rattle.std.proofs.Common.{length}
use Rattle.node_rows.proofs.accepted.+append_accepted.Given as goal

abbrev pub decreases-append_accepted : goal.decreases-append_accepted
decreases-append_accepted l = length l.accepted.now
