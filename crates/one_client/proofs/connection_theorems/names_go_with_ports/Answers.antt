use Rattle.one_client.proofs.PortNames.{names_go_with_ports}
use Rattle.one_client.proofs.connection_theorems.names_go_with_ports.Goals as goal

pub returns : goal.returns
returns c = names_go_with_ports
