use Rattle.one_client.proofs.ConnectsFirst.{connects_came_first}
use Rattle.one_client.proofs.connection_theorems.connects_came_first.Goals as goal

pub returns : goal.returns
returns c = connects_came_first
