use Rattle.one_client.proofs.ClientPromised.{one_client_is_promised}
use Rattle.one_client.proofs.theorems.one_client_is_promised.Goals as goal

pub returns : goal.returns
returns c = one_client_is_promised
