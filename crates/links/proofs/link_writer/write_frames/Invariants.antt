use Rattle.std.specs.Prelude.{length}
use Rattle.links.proofs.Framing.{Wrote}
use Rattle.links.proofs.link_writer.write_frames.Given as goal

abbrev pub invariant-frames : goal.invariant-frames
invariant-frames g l =
    Wrote (g.D.Write.contents l.initial.device) (g.D.Write.contents l.device) l.initial.sealer l.sealer l.parts l.rest

abbrev pub decreases-frames : goal.decreases-frames
decreases-frames g l = length l.rest
