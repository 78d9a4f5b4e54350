use Rattle.server.proofs.of_node_threads.OwnSendsJoin.{own_same}
use Rattle.server.proofs.node_threads.own_lane.OwnLane.new.Goals as goal

pub invariant_of-result : goal.invariant_of-result
invariant_of-result g c = own_same _ c.args.number _ _ c.requires
