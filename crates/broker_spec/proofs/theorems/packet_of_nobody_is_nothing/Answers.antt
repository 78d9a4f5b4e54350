use Rattle.broker_spec.proofs.PacketOfNobody.{packet_of_nobody_is_nothing}
use Rattle.broker_spec.proofs.PacketOfNobody.{window_is_steady}
use Rattle.broker_spec.proofs.theorems.packet_of_nobody_is_nothing.Goals as goal

pub returns : goal.returns
returns c = record { nothing = packet_of_nobody_is_nothing; steady = window_is_steady }
