use Rattle.server.proofs.of_node_threads.OwnSendsJoin.{sends_then}
use Rattle.server.proofs.node_threads.shared.Shared.do_turn_by.Goals as goal

pub returns : goal.returns
returns g c = sends_then _ _ _ (sends_then _ _ _ (sends_then _ _ _ c.take_queued.ensures c.tick-last.ensures) c.cut_by_size.ensures) c.hurry.ensures
