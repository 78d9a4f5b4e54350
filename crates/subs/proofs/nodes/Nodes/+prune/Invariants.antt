-- Fewer levels are left at each call.
use Rattle.std.proofs.Common.{length}
use Rattle.topics.specs.Text.{levels_of}
use Rattle.subs.proofs.nodes.Nodes.+prune.Given as goal

abbrev pub decreases-prune : goal.decreases-prune
decreases-prune l = length (levels_of l.text)
