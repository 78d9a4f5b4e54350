use Rattle.std.proofs.Common.{◌≡◌, ◌≤◌, ◌-◌, ◌∙◌, inl, inr, length, Some, refl, ap, arith}
use Rattle.headline.specs.node_moves.Moves.NodeCall.{hands_out}
use Rattle.world_nodes.specs.RunningNodes.{numbered_node}
use Rattle.world_nodes.specs.Nodes.{NodesState}
use Rattle.world_nodes.specs.Steps.{nodes_with_loss}
use Rattle.world_nodes.proofs.CountsGoOn.{acts_counting}
use Rattle.world_nodes.proofs.Exactly.{gives_acts}
use Rattle.world_nodes.proofs.HandsOver.{answers_so, hands, hands_bytes, is_there, rests, stands_there}
use Rattle.world_nodes.proofs.nodes.Nodes.hand_over.Goals as goal

pub returns-in-Ok-clause-exact : goal.returns-in-Ok-clause-exact
returns-in-Ok-clause-exact c =
    let below : c.args.node ≤ length c.self.inside.nodes.items = omega (arith, c.self.inside.nodes.ok.0, c.len.ensures, c.if-node-len.false) in
    let found = stands_there c.self.inside.nodes.items c.args.node c.index_mut-core.result.now c.if-node-eq0.false below c.index_mut-core.ensures.value in
    let is : numbered_node c.self.inside.nodes.items c.args.node ≡ Some c.index_mut-core.result.now = is_there c.self.inside.nodes.items c.args.node c.index_mut-core.result.now c.if-node-eq0.false found in
    rw (← c.self.view_is) (λ none. hands (let old : NodesState = record {
      master = c.self.inside.master;
      nodes = c.self.inside.nodes.items;
      sent = c.self.inside.sent.items;
      archive = c.self.inside.archive.items;
      losses = c.self.inside.losses;
    } in old) c.args.node c.index_mut-core.result.now c.outgoing.new.self c.args.port is c.in-Ok.ensures.left)

pub returns-in-Ok-clause-idle : goal.returns-in-Ok-clause-idle
returns-in-Ok-clause-idle c =
    let below : c.args.node ≤ length c.self.inside.nodes.items = omega (arith, c.self.inside.nodes.ok.0, c.len.ensures, c.if-node-len.false) in
    let found = stands_there c.self.inside.nodes.items c.args.node c.index_mut-core.result.now c.if-node-eq0.false below c.index_mut-core.ensures.value in
    let is : numbered_node c.self.inside.nodes.items c.args.node ≡ Some c.index_mut-core.result.now = is_there c.self.inside.nodes.items c.args.node c.index_mut-core.result.now c.if-node-eq0.false found in
    rw (← c.self.view_is) (λ e. cc, λ e. cc)

pub returns-in-Err-clause-idle : goal.returns-in-Err-clause-idle
returns-in-Err-clause-idle c =
    let below : c.args.node ≤ length c.self.inside.nodes.items = omega (arith, c.self.inside.nodes.ok.0, c.len.ensures, c.if-node-len.false) in
    let found = stands_there c.self.inside.nodes.items c.args.node c.index_mut-core.result.now c.if-node-eq0.false below c.index_mut-core.ensures.value in
    let is : numbered_node c.self.inside.nodes.items c.args.node ≡ Some c.index_mut-core.result.now = is_there c.self.inside.nodes.items c.args.node c.index_mut-core.result.now c.if-node-eq0.false found in
    rw (← c.self.view_is) (λ e. cc, λ e. cc)

pub returns-in-Ok-clause-bytes : goal.returns-in-Ok-clause-bytes
returns-in-Ok-clause-bytes c =
    let below : c.args.node ≤ length c.self.inside.nodes.items = omega (arith, c.self.inside.nodes.ok.0, c.len.ensures, c.if-node-len.false) in
    let found = stands_there c.self.inside.nodes.items c.args.node c.index_mut-core.result.now c.if-node-eq0.false below c.index_mut-core.ensures.value in
    let is : numbered_node c.self.inside.nodes.items c.args.node ≡ Some c.index_mut-core.result.now = is_there c.self.inside.nodes.items c.args.node c.index_mut-core.result.now c.if-node-eq0.false found in
    rw (← c.self.view_is) (λ none. hands_bytes (let old : NodesState = record {
      master = c.self.inside.master;
      nodes = c.self.inside.nodes.items;
      sent = c.self.inside.sent.items;
      archive = c.self.inside.archive.items;
      losses = c.self.inside.losses;
    } in old) c.args.node c.args.port c.index_mut-core.result.now c.args.out.now.items c.outgoing.new.out.items is c.in-Ok.ensures.bytes)

pub returns-in-Ok-clause-answer : goal.returns-in-Ok-clause-answer
returns-in-Ok-clause-answer c =
    let below : c.args.node ≤ length c.self.inside.nodes.items = omega (arith, c.self.inside.nodes.ok.0, c.len.ensures, c.if-node-len.false) in
    let found = stands_there c.self.inside.nodes.items c.args.node c.index_mut-core.result.now c.if-node-eq0.false below c.index_mut-core.ensures.value in
    let is : numbered_node c.self.inside.nodes.items c.args.node ≡ Some c.index_mut-core.result.now = is_there c.self.inside.nodes.items c.args.node c.index_mut-core.result.now c.if-node-eq0.false found in
    rw (← c.self.view_is) (λ none. answers_so (let old : NodesState = record {
      master = c.self.inside.master;
      nodes = c.self.inside.nodes.items;
      sent = c.self.inside.sent.items;
      archive = c.self.inside.archive.items;
      losses = c.self.inside.losses;
    } in old) c.args.node c.args.port c.index_mut-core.result.now c.in-Ok.handed is c.in-Ok.ensures.answer)

pub returns-in-Ok-clause-lossy : goal.returns-in-Ok-clause-lossy
returns-in-Ok-clause-lossy c =
    let below : c.args.node ≤ length c.self.inside.nodes.items = omega (arith, c.self.inside.nodes.ok.0, c.len.ensures, c.if-node-len.false) in
    let found = stands_there c.self.inside.nodes.items c.args.node c.index_mut-core.result.now c.if-node-eq0.false below c.index_mut-core.ensures.value in
    let is : numbered_node c.self.inside.nodes.items c.args.node ≡ Some c.index_mut-core.result.now = is_there c.self.inside.nodes.items c.args.node c.index_mut-core.result.now c.if-node-eq0.false found in
    rw (← c.self.view_is) (inl (
      hands (let old : NodesState = record {
        master = c.self.inside.master;
        nodes = c.self.inside.nodes.items;
        sent = c.self.inside.sent.items;
        archive = c.self.inside.archive.items;
        losses = c.self.inside.losses;
      } in old) c.args.node c.index_mut-core.result.now c.outgoing.new.self c.args.port is c.in-Ok.ensures.left,
      hands_bytes (let old : NodesState = record {
        master = c.self.inside.master;
        nodes = c.self.inside.nodes.items;
        sent = c.self.inside.sent.items;
        archive = c.self.inside.archive.items;
        losses = c.self.inside.losses;
      } in old) c.args.node c.args.port c.index_mut-core.result.now c.args.out.now.items c.outgoing.new.out.items is c.in-Ok.ensures.bytes,
      answers_so (let old : NodesState = record {
        master = c.self.inside.master;
        nodes = c.self.inside.nodes.items;
        sent = c.self.inside.sent.items;
        archive = c.self.inside.archive.items;
        losses = c.self.inside.losses;
      } in old) c.args.node c.args.port c.index_mut-core.result.now c.in-Ok.handed is c.in-Ok.ensures.answer,
    ))

pub returns-in-Err-clause-lossy : goal.returns-in-Err-clause-lossy
returns-in-Err-clause-lossy c =
    let below : c.args.node ≤ length c.self.inside.nodes.items = omega (arith, c.self.inside.nodes.ok.0, c.len.ensures, c.if-node-len.false) in
    let found = stands_there c.self.inside.nodes.items c.args.node c.index_mut-core.result.now c.if-node-eq0.false below c.index_mut-core.ensures.value in
    inr (
      c.count_loss.ensures.lost ∙ ap nodes_with_loss (rests (let old : NodesState = record {
        master = c.self.inside.master;
        nodes = c.self.inside.nodes.items;
        sent = c.self.inside.sent.items;
        archive = c.self.inside.archive.items;
        losses = c.self.inside.losses;
      } in old) (c.args.node - 1) c.index_mut-core.result.now c.outgoing.new.self found c.in-Err.ensures.same ∙ c.self.view_is),
      c.in-Err.ensures.err,
      refl,
    )

pub invariant_of-self : goal.invariant_of-self
invariant_of-self c =
    let below : c.args.node ≤ length c.self.inside.nodes.items = omega (arith, c.self.inside.nodes.ok.0, c.len.ensures, c.if-node-len.false) in
    let found = stands_there c.self.inside.nodes.items c.args.node c.index_mut-core.result.now c.if-node-eq0.false below c.index_mut-core.ensures.value in
    let is : numbered_node c.self.inside.nodes.items c.args.node ≡ Some c.index_mut-core.result.now = is_there c.self.inside.nodes.items c.args.node c.index_mut-core.result.now c.if-node-eq0.false found in
    acts_counting _ _ (c.args.node - 1) (hands_out c.args.port) c.self.inside.counters.told c.self.inside.counters.next c.self.inside.counters.told c.self.inside.counters.next c.self.invariant
    (gives_acts c.args.node c.args.port _ _ (hands (let old : NodesState = record {
      master = c.self.inside.master;
      nodes = c.self.inside.nodes.items;
      sent = c.self.inside.sent.items;
      archive = c.self.inside.archive.items;
      losses = c.self.inside.losses;
    } in old) c.args.node c.index_mut-core.result.now c.outgoing.new.self c.args.port is c.in-Ok.ensures.left)) refl refl refl (λ h. h) (λ h. h)

pub returns-in-Ok-clause-quiet : goal.returns-in-Ok-clause-quiet
returns-in-Ok-clause-quiet c =
    let below : c.args.node ≤ length c.self.inside.nodes.items = omega (arith, c.self.inside.nodes.ok.0, c.len.ensures, c.if-node-len.false) in
    let found = stands_there c.self.inside.nodes.items c.args.node c.index_mut-core.result.now c.if-node-eq0.false below c.index_mut-core.ensures.value in
    let is : numbered_node c.self.inside.nodes.items c.args.node ≡ Some c.index_mut-core.result.now = is_there c.self.inside.nodes.items c.args.node c.index_mut-core.result.now c.if-node-eq0.false found in
    rw (← c.self.view_is) (λ none. hands (let old : NodesState = record {
      master = c.self.inside.master;
      nodes = c.self.inside.nodes.items;
      sent = c.self.inside.sent.items;
      archive = c.self.inside.archive.items;
      losses = c.self.inside.losses;
    } in old) c.args.node c.index_mut-core.result.now c.outgoing.new.self c.args.port is c.in-Ok.ensures.left)

pub returns-in-Err-clause-quiet : goal.returns-in-Err-clause-quiet
returns-in-Err-clause-quiet c =
    let below : c.args.node ≤ length c.self.inside.nodes.items = omega (arith, c.self.inside.nodes.ok.0, c.len.ensures, c.if-node-len.false) in
    let found = stands_there c.self.inside.nodes.items c.args.node c.index_mut-core.result.now c.if-node-eq0.false below c.index_mut-core.ensures.value in
    let is : numbered_node c.self.inside.nodes.items c.args.node ≡ Some c.index_mut-core.result.now = is_there c.self.inside.nodes.items c.args.node c.index_mut-core.result.now c.if-node-eq0.false found in
    rw (← c.self.view_is) (λ none. let no = c.in-Err.ensures.nothing (none c.index_mut-core.result.now is) in absurd cc)
