use Rattle.cutter.proofs.EveryStream.{none_left, cuttings_agree}
use Rattle.cutter.proofs.theorems.no_packet_is_left.Goals as goal

pub returns : goal.returns
returns c = record { none = none_left; agree = cuttings_agree c.no_spelling_begins_another.ensures }
