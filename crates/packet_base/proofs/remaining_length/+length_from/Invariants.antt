use Rattle.packet_base.proofs.remaining_length.+length_from.Given as goal

abbrev pub decreases-length_from : goal.decreases-length_from
decreases-length_from l = l.follow
