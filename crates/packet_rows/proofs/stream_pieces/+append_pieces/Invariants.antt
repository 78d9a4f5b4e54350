use Rattle.std.proofs.Common.{length}
use Rattle.packet_rows.proofs.stream_pieces.+append_pieces.Given as goal

abbrev pub decreases-append_pieces : goal.decreases-append_pieces
decreases-append_pieces l = length l.steps.now
