use Rattle.std.proofs.Common.{refl}
use Rattle.packet_base.specs.Readers.{length_at}
use Rattle.packet.specs.Connect.{connect_of}
use Rattle.packet.specs.Verdict.{verdict}
use Rattle.core_tests.proofs.orders.first_faults_of_texts.Goals as goal

pub returns-clause-connects : goal.returns-clause-connects
unfolding verdict length_at connect_of
returns-clause-connects c = (refl, refl)
