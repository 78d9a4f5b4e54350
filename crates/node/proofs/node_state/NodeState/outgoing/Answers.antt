use Rattle.std.proofs.Common.{◌≡◌, ◌+◌, ◌++◌, length, ap, sym, subst, ◌∙◌}
use Rattle.run_history.specs.Log.{items_taken}
use Rattle.run_history.specs.Parties.{NodeView}
use Rattle.world_base.specs.node_connections.PendingOutput.{pending_bytes}
use Rattle.world_base.specs.node_core.PortOutput.{hands_over, listed_at}
use Rattle.node.specs.Growth.{bytes_since_cut, saturated}
use Rattle.node.specs.HandedCounts.{CountsAreRight, counts_after}
use Rattle.node.specs.State.{AreOfLanes, NodeStateView, Replays, items_of}
use Rattle.node.proofs.CountsInRun.{appended, counts_handed, not_shorter}
use Rattle.node.proofs.Recorded.{replays_handed, tallies_handed}
use Rattle.node.proofs.node_state.NodeState.outgoing.Goals as goal

pub overflow_sub-len : goal.overflow_sub-len
overflow_sub-len g c =
    not_shorter c.args.out.now.items c.outgoing.new.out.items _ c.len-before.result c.len.result c.in_ok-handed.ensures.bytes
    (c.len-before.ensures ∙ c.args.out.now.ok.0) (c.len.ensures ∙ c.outgoing.new.out.ok.0)

pub invariant_of-self : goal.invariant_of-self
invariant_of-self g c =
    let receiver = c.self.inside.receiver in
    subst
    (λ (node : NodeView). Replays (g.J.NodeNaming.first_of receiver.inbox) receiver.taken node.node
    × (c.self.inside.grown ≡ saturated (bytes_since_cut receiver.taken)) × (node.index + 1 ≡ receiver.inbox)
    × (items_taken receiver.inbox node.log ≡ items_of receiver.taken) × AreOfLanes receiver
    × CountsAreRight g.H.RunNaming.nodes g.H.RunNaming.config node.index node.log c.self.inside.counts)
    (sym c.in_err-handed.ensures.same) c.self.invariant

pub invariant_of-self-2 : goal.invariant_of-self-2
invariant_of-self-2 g c =
    let old = c.self.inside.node in
    let pending = pending_bytes (listed_at c.args.port old.node.core) in
    let more = appended c.args.out.now.items c.outgoing.new.out.items pending c.len-before.result c.len.result c.in_ok-handed.ensures.bytes (c.len-before.ensures ∙ c.args.out.now.ok.0) (c.len.ensures ∙ c.outgoing.new.out.ok.0) in
    let tallies = tallies_handed c.self.inside.receiver c.args.port old c.outgoing.new.self c.outgoing.result c.outgoing.ensures.hands c.outgoing.ensures.same (c.self.invariant.2, c.self.invariant.3) in (
      replays_handed g.J.NodeNaming.first_of c.self.inside.receiver c.args.port old c.outgoing.new.self
          c.outgoing.result c.outgoing.ensures.hands c.outgoing.ensures.same c.self.invariant.0,
      c.self.invariant.1,
      tallies.0,
      tallies.1,
      c.self.invariant.4,
      subst (CountsAreRight g.H.RunNaming.nodes g.H.RunNaming.config c.outgoing.new.self.index c.outgoing.new.self.log)
          (sym (c.add.ensures ∙ ap (counts_after c.self.inside.counts c.args.port) more))
          (counts_handed g.H.RunNaming.nodes g.H.RunNaming.config old c.outgoing.new.self c.args.port c.self.inside.counts c.is_of_run.ensures c.in_ok-handed.ensures.hands c.self.invariant.5),
    )

pub returns-clause-bytes : goal.returns-clause-bytes
returns-clause-bytes g c =
    c.in_ok-handed.ensures.bytes
    ∙ ap (λ (s : NodeStateView). c.args.out.now.items ++ pending_bytes (listed_at c.args.port s.node.core)) c.self.view_is

pub returns-clause-left : goal.returns-clause-left
returns-clause-left g c =
    let inside = c.self.inside in
    let pending = pending_bytes (listed_at c.args.port inside.node.node.core) in
    let more = appended c.args.out.now.items c.outgoing.new.out.items pending c.len-before.result c.len.result c.in_ok-handed.ensures.bytes (c.len-before.ensures ∙ c.args.out.now.ok.0) (c.len.ensures ∙ c.outgoing.new.out.ok.0) in
    let counted = c.add.ensures ∙ ap (counts_after inside.counts c.args.port) more in
    let new : NodeStateView =
    record {
      receiver = inside.receiver;
      node = c.outgoing.new.self.node;
      log = c.outgoing.new.self.log;
      takings = inside.takings;
      counts = c.add.new.self;
    } in
    subst
    (λ (s : NodeStateView). new
    ≡ record s {
      node = record s.node { core = hands_over c.args.port s.node.core };
      log = new.log;
      counts = counts_after s.counts c.args.port (length (pending_bytes (listed_at c.args.port s.node.core)));
    })
    c.self.view_is
    (λ i. record {
      receiver = inside.receiver;
      node = c.in_ok-handed.ensures.hands.node i;
      log = c.outgoing.new.self.log;
      takings = inside.takings;
      counts = counted i;
    })
