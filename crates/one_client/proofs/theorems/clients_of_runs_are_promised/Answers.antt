use Rattle.one_client.proofs.OwnPorts.{clients_with_own_ports_are_promised}
use Rattle.one_client.proofs.theorems.clients_of_runs_are_promised.Goals as goal

pub returns : goal.returns
returns c = λ nodes config log history client one along.
    clients_with_own_ports_are_promised nodes config client history.group history.went one along
