use Rattle.std.proofs.Common.{length}
use Rattle.packet_rows.proofs.stream_pieces.+append_bytewise.Given as goal

abbrev pub decreases-append_bytewise : goal.decreases-append_bytewise
decreases-append_bytewise l = length l.bytes.now
