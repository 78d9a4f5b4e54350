-- Fewer levels are left at each call.
use Rattle.std.proofs.Common.{length}
use Rattle.topics.specs.Text.{levels_of}
use Rattle.subs.proofs.nodes.Nodes.+make_slot.Given as goal

abbrev pub decreases-make_slot : goal.decreases-make_slot
decreases-make_slot l = length (levels_of l.text)
