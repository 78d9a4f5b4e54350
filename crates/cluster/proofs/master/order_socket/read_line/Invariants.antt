-- What was read is within the line, and each read adds to it.
use Rattle.std.proofs.Common.{◌-◌, ◌≤◌}
use Rattle.cluster.proofs.master.order_socket.read_line.Given as goal

abbrev pub invariant-loop-end : goal.invariant-loop-end
invariant-loop-end l = l.end ≤ 256

abbrev pub decreases-loop-end : goal.decreases-loop-end
decreases-loop-end l = 256 - l.end
