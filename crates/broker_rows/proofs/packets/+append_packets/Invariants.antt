use Rattle.std.proofs.Common.{length}
use Rattle.broker_rows.proofs.packets.+append_packets.Given as goal

abbrev pub decreases-append_packets : goal.decreases-append_packets
decreases-append_packets l = length l.packets.now
