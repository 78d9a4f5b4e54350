use Rattle.std.proofs.Common.{◌∙◌, ap, ◌++◌, ◌∷◌, []}
use Rattle.mailbox.specs.Ends.{LaneView}
use Rattle.run_history.specs.Log.{sent_in}
use Rattle.run_history.proofs.Prefixes.{prefix_self}
use Rattle.world_base.specs.declared.node_core.item.Item.{Item}
use Rattle.server.proofs.of_node_threads.OwnSendsJoin.{own_all, own_sent, sends_so}
use Rattle.server.proofs.node_threads.shared.Shared.send_own.Goals as goal

pub invariant_of-own : goal.invariant_of-own
invariant_of-own g c =
    let own = c.own.inside in
    own_all own.seen own.seen own.number own.lane.sent _ (prefix_self own.seen) c.own.invariant
    (own_sent (sent_in own.seen) own.number c.args.item own.lane.sent _ c.requires
    (ap (λ (lane : LaneView Item). lane.sent) c.send_and_take.ensures ∙ ap (λ (item : Item). own.lane.sent ++ item ∷ []) c.from_outside-sent.ensures))

pub returns : goal.returns
returns g c =
    let own = c.own.inside in
    sends_so _ own.number own.lane _ own.seen own.seen c.own.view_is (prefix_self own.seen)
    (own_sent (sent_in own.seen) own.number c.args.item own.lane.sent _ c.requires
    (ap (λ (lane : LaneView Item). lane.sent) c.send_and_take.ensures ∙ ap (λ (item : Item). own.lane.sent ++ item ∷ []) c.from_outside-sent.ensures))
