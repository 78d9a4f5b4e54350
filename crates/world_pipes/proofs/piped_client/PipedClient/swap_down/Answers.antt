use Rattle.world_pipes.proofs.PairChanged.{swapping_follows}
use Rattle.world_pipes.proofs.piped_client.PipedClient.swap_down.Goals as goal

pub returns-clause-goes : goal.returns-clause-goes
returns-clause-goes c = swapping_follows c.args.at c.args.bytes.now.items c.args.self.now c.exchange.new.self c.exchange.ensures.left
