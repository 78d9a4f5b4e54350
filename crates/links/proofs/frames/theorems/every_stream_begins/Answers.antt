use Rattle.links.proofs.of_frames.Walking.{every_stream}
use Rattle.links.proofs.frames.theorems.every_stream_begins.Goals as goal

pub returns : goal.returns
returns c = every_stream
