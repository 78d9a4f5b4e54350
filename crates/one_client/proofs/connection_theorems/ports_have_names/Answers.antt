use Rattle.one_client.proofs.PortNames.{ports_have_names}
use Rattle.one_client.proofs.connection_theorems.ports_have_names.Goals as goal

pub returns : goal.returns
returns c = ports_have_names
