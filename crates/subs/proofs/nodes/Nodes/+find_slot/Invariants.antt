-- Fewer levels are left at each call.
use Rattle.std.proofs.Common.{length}
use Rattle.topics.specs.Text.{levels_of}
use Rattle.subs.proofs.nodes.Nodes.+find_slot.Given as goal

abbrev pub decreases-find_slot : goal.decreases-find_slot
decreases-find_slot l = length (levels_of l.text)
