use Rattle.std.proofs.Common.{ap}
use Rattle.mailbox.specs.Ends.{LaneView}
use Rattle.run_history.specs.Log.{sent_in}
use Rattle.run_history.proofs.Prefixes.{prefix_self}
use Rattle.world_base.specs.declared.node_core.item.Item.{Item}
use Rattle.server.proofs.of_node_threads.OwnSendsJoin.{own_all, own_same, sends_so}
use Rattle.server.proofs.node_threads.shared.Shared.take_all.Goals as goal

pub invariant_of-own : goal.invariant_of-own
invariant_of-own g c =
    let own = c.own.inside in
    own_all own.seen own.seen own.number own.lane.sent _ (prefix_self own.seen) c.own.invariant
    (own_same (sent_in own.seen) own.number own.lane.sent _ (ap (λ (lane : LaneView Item). lane.sent) c.take_until_empty.ensures))

pub returns : goal.returns
returns g c =
    let own = c.own.inside in
    sends_so _ own.number own.lane _ own.seen own.seen c.own.view_is (prefix_self own.seen)
    (own_same (sent_in own.seen) own.number own.lane.sent _ (ap (λ (lane : LaneView Item). lane.sent) c.take_until_empty.ensures))
