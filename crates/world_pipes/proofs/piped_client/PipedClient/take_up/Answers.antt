use Rattle.world_pipes.proofs.PairChanged.{taking_up_follows}
use Rattle.world_pipes.proofs.piped_client.PipedClient.take_up.Goals as goal

pub returns-clause-goes : goal.returns-clause-goes
returns-clause-goes c = taking_up_follows c.args.at c.args.count c.args.self.now c.come_up.new.self c.come_up.ensures
