use Rattle.ballot_base.specs.LawfulConfig.{max_node}
use Rattle.server.proofs.PortsOfRuns.{own_ports}
use Rattle.server.proofs.theorems.served_clients_are_promised.Goals as goal

pub returns : goal.returns
returns c = λ config numbers run served client one along apart alone.
    c.clients_of_runs_are_promised.ensures max_node config run.log served.history client one along
    (own_ports c.ports_come_once.ensures config numbers run served one.pipes apart) alone
