-- The list of nodes gets shorter.
use Rattle.std.proofs.Common.{length, ℕ}
use Rattle.command_line.proofs.cause.+once.Given as goal

abbrev pub decreases-once : goal.decreases-once
decreases-once l = length l.nodes.now
