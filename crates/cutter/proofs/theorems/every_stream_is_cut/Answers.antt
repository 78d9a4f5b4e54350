use Rattle.cutter.proofs.EveryStream.{every_stream}
use Rattle.cutter.proofs.theorems.every_stream_is_cut.Goals as goal

pub returns : goal.returns
returns c = every_stream
