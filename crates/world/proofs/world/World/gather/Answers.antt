use Rattle.std.proofs.Common.{refl}
use Rattle.world.proofs.Joined.{goes_on_rest}
use Rattle.world_pipes.proofs.of_clients.HandsQuietly.{stays_rest}
use Rattle.world.proofs.world.World.gather.Goals as goal

pub returns-else-node-ne0-clause-goes : goal.returns-else-node-ne0-clause-goes
returns-else-node-ne0-clause-goes c = goes_on_rest _ _ refl

pub returns-else-node-ne0-clause-quiet : goal.returns-else-node-ne0-clause-quiet
returns-else-node-ne0-clause-quiet c = stays_rest c.args.node c.args.self.now.nodes c.args.self.now.nodes refl
