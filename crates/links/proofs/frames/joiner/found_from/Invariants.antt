use Rattle.std.proofs.Common.{◌-◌, length}
use Rattle.links.specs.frames.Walks.{HasWalked}
use Rattle.links.proofs.frames.joiner.found_from.Given as goal

abbrev pub invariant-parts : goal.invariant-parts
invariant-parts l = HasWalked l.limit l.bytes l.walk

abbrev pub decreases-parts : goal.decreases-parts
decreases-parts l = length l.bytes - l.walk.at
