-- Fewer levels are left at each call, counted twice.
use Rattle.std.proofs.Common.{◌+◌, ◌*◌, length}
use Rattle.topics.specs.Text.{levels_of}
use Rattle.subs.proofs.nodes.Nodes.+find_at.Given as goal

abbrev pub decreases-find_at : goal.decreases-find_at
decreases-find_at l = 2 * length (levels_of l.topic)

abbrev pub decreases-find_after : goal.decreases-find_after
decreases-find_after l = 2 * length (levels_of l.after) + 1
