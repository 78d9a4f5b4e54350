use Rattle.links.proofs.Handing.{came_sealed}
use Rattle.links.proofs.theorems.accepted_frames_are_tagged.Goals as goal

pub returns : goal.returns
returns c = came_sealed
