use Rattle.one_client.proofs.ConnectsOnce.{names_connect_once}
use Rattle.one_client.proofs.connection_theorems.names_connect_once.Goals as goal

pub returns : goal.returns
returns c = names_connect_once
