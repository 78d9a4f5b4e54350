use Rattle.server.specs.node_threads.LaneReports.IsOwn.{tick}
use Rattle.server.proofs.of_node_threads.OwnSendsJoin.{sends_nothing}
use Rattle.server.proofs.node_threads.shared.Shared.hurry.Goals as goal

pub send_own-requires : goal.send_own-requires
send_own-requires g c = tick c.now-now.result

pub returns-then-not-hurry : goal.returns-then-not-hurry
returns-then-not-hurry g c = sends_nothing _
