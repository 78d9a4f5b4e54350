use Rattle.std.proofs.Common.{length}
use Rattle.links.proofs.of_frames.Walking.{Copies}
use Rattle.links.proofs.frames.joiner.joined.Given as goal

abbrev pub invariant-parts : goal.invariant-parts
invariant-parts l = Copies l.limit l.bytes l.message.items l.rest l.room

abbrev pub decreases-parts : goal.decreases-parts
decreases-parts l = length l.rest
