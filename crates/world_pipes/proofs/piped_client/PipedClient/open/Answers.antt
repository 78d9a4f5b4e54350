use Rattle.world_pipes.proofs.ConnectingFollows.{connecting_follows}
use Rattle.world_pipes.proofs.piped_client.PipedClient.open.Goals as goal

pub returns-clause-goes : goal.returns-clause-goes
returns-clause-goes c = connecting_follows c.args.node c.args.port c.args.self.now c.connect.new.self c.connect.result c.requires c.connect.ensures
