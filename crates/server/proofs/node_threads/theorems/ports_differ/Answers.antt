use Rattle.server.proofs.of_node_threads.PortsApart.{ports_apart}
use Rattle.server.proofs.node_threads.theorems.ports_differ.Goals as goal

pub returns : goal.returns
returns c = ports_apart
