use Rattle.server.specs.node_threads.LaneReports.IsOwn.{cut}
use Rattle.server.proofs.of_node_threads.OwnSendsJoin.{sends_nothing}
use Rattle.server.proofs.node_threads.shared.Shared.cut_by_size.Goals as goal

pub send_own-requires : goal.send_own-requires
send_own-requires g c = cut

pub returns-else-wants_cut : goal.returns-else-wants_cut
returns-else-wants_cut g c = sends_nothing _
