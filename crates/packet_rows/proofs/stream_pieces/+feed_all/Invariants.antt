use Rattle.std.proofs.Common.{length}
use Rattle.packet_rows.proofs.stream_pieces.+feed_all.Given as goal

abbrev pub decreases-feed_all : goal.decreases-feed_all
decreases-feed_all l = length l.pieces.now
