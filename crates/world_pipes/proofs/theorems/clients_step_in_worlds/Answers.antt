use Rattle.world_pipes.proofs.StepsInWorlds.{steps_in_worlds}
use Rattle.world_pipes.proofs.theorems.clients_step_in_worlds.Goals as goal

pub returns : goal.returns
returns c = steps_in_worlds
