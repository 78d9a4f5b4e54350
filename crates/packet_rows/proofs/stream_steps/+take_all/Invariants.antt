use Rattle.std.proofs.Common.{length}
use Rattle.packet_rows.proofs.stream_steps.+take_all.Given as goal

abbrev pub decreases-take_all : goal.decreases-take_all
decreases-take_all l = length l.cutter.now.bytes
