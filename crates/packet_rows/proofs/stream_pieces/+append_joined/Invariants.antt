use Rattle.std.proofs.Common.{length}
use Rattle.packet_rows.proofs.stream_pieces.+append_joined.Given as goal

abbrev pub decreases-append_joined : goal.decreases-append_joined
decreases-append_joined l = length l.pieces.now
