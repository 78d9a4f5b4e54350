use Rattle.one_client.proofs.OwnPorts.{clients_with_own_ports_are_promised}
use Rattle.one_client.proofs.theorems.clients_with_own_ports_are_promised.Goals as goal

pub returns : goal.returns
returns c = clients_with_own_ports_are_promised
