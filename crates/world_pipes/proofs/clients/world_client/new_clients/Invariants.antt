use Rattle.std.proofs.Common.{take}
use Rattle.world_pipes.proofs.of_clients.ClientsMade.{AreMade}
use Rattle.world_pipes.proofs.clients.world_client.new_clients.Given as goal

abbrev pub invariant-loop-client : goal.invariant-loop-client
invariant-loop-client l = AreMade l.made.items (take l.client-index l.clients)
