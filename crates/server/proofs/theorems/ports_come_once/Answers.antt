use Rattle.server.proofs.PortsOnce.{ports_come_once}
use Rattle.server.proofs.theorems.ports_come_once.Goals as goal

pub returns : goal.returns
returns c = ports_come_once
