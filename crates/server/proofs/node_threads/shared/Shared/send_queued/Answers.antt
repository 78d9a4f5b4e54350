use Rattle.std.proofs.Common.{◌≡◌, ◌∙◌, ◌++◌, ◌∷◌, [], ℕ, ap, sym, subst, arith}
use Rattle.mailbox.specs.Ends.{LaneView}
use Rattle.post.specs.outbox.Queued.{IsPosted}
use Rattle.run_history.specs.Log.{sent_in}
use Rattle.run_history.specs.Sending.{WasSentTo}
use Rattle.world_base.specs.declared.node_core.item.Item.{Item}
use Rattle.server.specs.node_threads.LaneReports.{OwnLaneView}
use Rattle.server.proofs.of_node_threads.OwnSendsJoin.{own_all, own_queued, posted_here, posted_later, sends_nothing, sends_so}
use Rattle.server.proofs.node_threads.shared.Shared.send_queued.Goals as goal

pub invariant_of-own : goal.invariant_of-own
invariant_of-own g c =
    let own = c.own.inside in
    let parts = c.into_parts-number in
    let seen = parts.result.2 in
    let item = parts.result.1 in
    let later = c.learn.new.self in
    let same : parts.result.0 ≡ own.number = omega (arith, c.if-number.true, c.number.ensures, ap (λ (o : OwnLaneView). o.number) c.own.view_is) in
    let here : WasSentTo (sent_in seen) own.number item = subst (λ (number : ℕ). WasSentTo (sent_in seen) number item) same parts.ensures.sent in
    let posted : IsPosted (sent_in later) own.number item =
    posted_later seen later own.number item c.learn.ensures.that
    (posted_here (sent_in c.requires.log) (sent_in seen) c.args.self.now.context.peer.now.number own.number item
    (subst (λ (i : Item). IsPosted (sent_in c.requires.log) c.args.self.now.context.peer.now.number i) (sym parts.ensures.item) c.requires.posted) here) in
    let sent : c.send.new.lane.sent ≡ own.lane.sent ++ item ∷ [] =
    ap (λ (lane : LaneView Item). lane.sent) c.send.ensures ∙ ap (λ (i : Item). own.lane.sent ++ i ∷ []) c.new.ensures in
    own_all own.seen later own.number own.lane.sent c.send.new.lane.sent c.learn.ensures.this c.own.invariant
    (own_queued (sent_in later) own.number item own.lane.sent c.send.new.lane.sent posted sent)

pub returns-then-number : goal.returns-then-number
returns-then-number g c =
    let own = c.own.inside in
    let parts = c.into_parts-number in
    let seen = parts.result.2 in
    let item = parts.result.1 in
    let later = c.learn.new.self in
    let same : parts.result.0 ≡ own.number = omega (arith, c.if-number.true, c.number.ensures, ap (λ (o : OwnLaneView). o.number) c.own.view_is) in
    let here : WasSentTo (sent_in seen) own.number item = subst (λ (number : ℕ). WasSentTo (sent_in seen) number item) same parts.ensures.sent in
    let posted : IsPosted (sent_in later) own.number item =
    posted_later seen later own.number item c.learn.ensures.that
    (posted_here (sent_in c.requires.log) (sent_in seen) c.args.self.now.context.peer.now.number own.number item
    (subst (λ (i : Item). IsPosted (sent_in c.requires.log) c.args.self.now.context.peer.now.number i) (sym parts.ensures.item) c.requires.posted) here) in
    let sent : c.send.new.lane.sent ≡ own.lane.sent ++ item ∷ [] =
    ap (λ (lane : LaneView Item). lane.sent) c.send.ensures ∙ ap (λ (i : Item). own.lane.sent ++ i ∷ []) c.new.ensures in
    sends_so c.args.own.now own.number own.lane c.send.new.lane own.seen later c.own.view_is c.learn.ensures.this
    (own_queued (sent_in later) own.number item own.lane.sent c.send.new.lane.sent posted sent)

pub returns-else-number : goal.returns-else-number
returns-else-number g c = sends_nothing c.args.own.now
