use Rattle.std.proofs.Common.{rules}
use Rattle.server.proofs.of_node_threads.OwnSendsJoin.{sends_nothing, sends_then}
use Rattle.server.proofs.node_threads.shared.Shared.take_queued.Goals as goal

pub returns-then-is_empty : goal.returns-then-is_empty
returns-then-is_empty g c = sends_nothing _

pub loop-item-init : goal.loop-item-init
loop-item-init g c = record { queued = search rules; own = sends_nothing _ }

pub loop-item-preserved : goal.loop-item-preserved
loop-item-preserved g c = record {
  queued = search rules;
  own = sends_then _ _ _ c.loop-item.invariant.own c.send_queued.ensures;
}

pub returns : goal.returns
returns g c = sends_then _ _ _ c.loop-item.invariant.own c.take_all.ensures
