use Rattle.links.proofs.of_frames.Joinings.{what_is_joined_was_cut, what_was_cut_is_joined}
use Rattle.links.proofs.frames.theorems.what_was_cut_is_joined.Goals as goal

pub returns : goal.returns
returns c = record { prefix = what_is_joined_was_cut; all = what_was_cut_is_joined }
