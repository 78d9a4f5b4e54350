use Rattle.server.specs.node_threads.LaneReports.IsOwn.{tick}
use Rattle.server.proofs.of_node_threads.OwnSendsJoin.{sends_nothing, sends_then}
use Rattle.server.proofs.node_threads.shared.Shared.tick.Goals as goal

pub send_own-requires : goal.send_own-requires
send_own-requires g c = tick c.now-now.result

pub returns-then-saturating_sub-lt-TICK_MILLIS : goal.returns-then-saturating_sub-lt-TICK_MILLIS
returns-then-saturating_sub-lt-TICK_MILLIS g c = sends_nothing _

pub returns : goal.returns
returns g c = sends_then _ _ _ c.send_own.ensures c.cut_in_time.ensures
