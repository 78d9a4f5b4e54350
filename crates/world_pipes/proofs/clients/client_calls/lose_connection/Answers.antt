use Rattle.std.proofs.Common.{ap}
use Rattle.world_pipes.specs.Piped.{Piped}
use Rattle.world_pipes.specs.clients.SlotsAreValid.{connection_targets}
use Rattle.world_pipes.proofs.of_clients.CallsGiven.{losing_goes}
use Rattle.world_pipes.proofs.clients.client_calls.lose_connection.Goals as goal

pub returns-clause-goes : goal.returns-clause-goes
returns-clause-goes c = losing_goes c.args.piped.now c.abandon.new.self c.abandon.ensures.goes

pub returns-clause-leads : goal.returns-clause-leads
returns-clause-leads c = ap (λ (p : Piped). connection_targets p.pairs) c.abandon.ensures.lost
