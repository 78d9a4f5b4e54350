use Rattle.headline.proofs.ClientServed.{a_client_is_served}
use Rattle.headline.proofs.rows.a_client_is_served.Goals as goal

pub returns : goal.returns
returns c = a_client_is_served
