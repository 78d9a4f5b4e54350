use Rattle.world_pipes.specs.Piped.{piped}
use Rattle.world_pipes.proofs.Pairs.{losing_follows}
use Rattle.world_pipes.proofs.piped_client.PipedClient.abandon.Goals as goal

pub returns-clause-goes : goal.returns-clause-goes
returns-clause-goes c = rw (← c.self.view_is, c.lost.ensures) (losing_follows (piped c.self.inside.core c.self.inside.pairs.items))
