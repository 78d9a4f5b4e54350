use Rattle.std.proofs.Common.{refl}
use Rattle.world_pipes.proofs.of_clients.CallsGiven.{stays_all}
use Rattle.world_pipes.proofs.clients.transport.carry_down_on.Goals as goal

pub returns-then-not-is_open-clause-goes : goal.returns-then-not-is_open-clause-goes
returns-then-not-is_open-clause-goes c = stays_all c.args.piped.now c.args.piped.now refl

pub returns-then-not-is_part-clause-goes : goal.returns-then-not-is_part-clause-goes
returns-then-not-is_part-clause-goes c = stays_all c.args.piped.now c.args.piped.now refl
