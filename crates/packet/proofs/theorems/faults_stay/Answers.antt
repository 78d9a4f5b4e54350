use Rattle.packet.proofs.MoreBytes.{faults_stay_so}
use Rattle.packet.proofs.theorems.faults_stay.Goals as goal

pub returns : goal.returns
returns c = faults_stay_so
