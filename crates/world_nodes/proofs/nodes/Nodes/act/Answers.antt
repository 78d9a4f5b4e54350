use Rattle.std.proofs.Common.{◌-◌, refl, ◌∙◌}
use Rattle.headline.specs.node_moves.Moves.NodeCall.{takes}
use Rattle.master.proofs.Groups.{more_than}
use Rattle.world_nodes.specs.Nodes.{NodesState}
use Rattle.world_nodes.proofs.Acts.{after_turn_of, took_by, turn_takes}
use Rattle.world_nodes.proofs.CountsGoOn.{acts_counting, heard_after}
use Rattle.world_nodes.proofs.ActsLosing.{turn_loses}
use Rattle.world_nodes.proofs.Exactly.{exactly}
use Rattle.world_nodes.proofs.Resting.{turn_rests}
use Rattle.world_nodes.proofs.nodes.Nodes.act.Goals as goal

pub returns-clause-lossy : goal.returns-clause-lossy
returns-clause-lossy c =
    let x = rw (← c.self.view_is) at c.in-Some.ensures.some in
    let took = took_by c.self.inside.nodes.items c.in-Some.at x.core c.index_mut-core.result.now c.args.item c.step_node-whole.new.node c.self.inside.sent.items
    c.step_node-whole.new.sent.items c.step_node-whole.result x.stands c.index_mut-core.ensures.value c.step_node-whole.ensures in
    rw (← c.self.view_is) (turn_takes (let old : NodesState = record {
      master = c.self.inside.master;
      nodes = c.self.inside.nodes.items;
      sent = c.self.inside.sent.items;
      archive = c.self.inside.archive.items;
      losses = c.self.inside.losses;
    } in old) c.args.node c.in-Some.at x c.step_node-whole.new.node c.args.item c.step_node-whole.new.sent.items c.step_node-whole.result c.counted-self-inside.result took
    c.counted-self-inside.ensures)

pub returns-clause-exact : goal.returns-clause-exact
returns-clause-exact c =
    let x = rw (← c.self.view_is) at c.in-Some.ensures.some in
    let took = took_by c.self.inside.nodes.items c.in-Some.at x.core c.index_mut-core.result.now c.args.item c.step_node-whole.new.node c.self.inside.sent.items
    c.step_node-whole.new.sent.items c.step_node-whole.result x.stands c.index_mut-core.ensures.value c.step_node-whole.ensures in
    let old : NodesState = record {
      master = c.self.inside.master;
      nodes = c.self.inside.nodes.items;
      sent = c.self.inside.sent.items;
      archive = c.self.inside.archive.items;
      losses = c.self.inside.losses;
    } in
    rw (← c.self.view_is) (exactly c.args.node c.args.item old (after_turn_of c.in-Some.at c.step_node-whole.new.node c.step_node-whole.new.sent.items c.counted-self-inside.result old)
    (turn_takes old c.args.node c.in-Some.at x c.step_node-whole.new.node c.args.item c.step_node-whole.new.sent.items c.step_node-whole.result c.counted-self-inside.result took
    c.counted-self-inside.ensures))

pub returns-clause-acts : goal.returns-clause-acts
returns-clause-acts c =
    let x = rw (← c.self.view_is) at c.in-Some.ensures.some in
    let sent = rw (← c.self.view_is) at c.requires in
    let took = took_by c.self.inside.nodes.items c.in-Some.at x.core c.index_mut-core.result.now c.args.item c.step_node-whole.new.node c.self.inside.sent.items
    c.step_node-whole.new.sent.items c.step_node-whole.result x.stands c.index_mut-core.ensures.value c.step_node-whole.ensures in
    rw (← c.self.view_is) (turn_loses (let old : NodesState = record {
      master = c.self.inside.master;
      nodes = c.self.inside.nodes.items;
      sent = c.self.inside.sent.items;
      archive = c.self.inside.archive.items;
      losses = c.self.inside.losses;
    } in old) c.args.node c.in-Some.at x c.step_node-whole.new.node c.args.item c.step_node-whole.new.sent.items c.step_node-whole.result c.counted-self-inside.result took sent)

pub count_from-requires : goal.count_from-requires
count_from-requires c =
    more_than c.len-from.result c.self.inside.sent.items _ c.step_node-whole.new.sent.items c.deref.result.now c.deref.ensures.value c.step_node-whole.ensures.is
    (c.len-from.ensures ∙ c.self.inside.sent.ok.0)

pub invariant_of-self : goal.invariant_of-self
invariant_of-self c =
    let x = rw (← c.self.view_is) at c.in-Some.ensures.some in
    let sent = rw (← c.self.view_is) at c.requires in
    let took = took_by c.self.inside.nodes.items c.in-Some.at x.core c.index_mut-core.result.now c.args.item c.step_node-whole.new.node c.self.inside.sent.items
    c.step_node-whole.new.sent.items c.step_node-whole.result x.stands c.index_mut-core.ensures.value c.step_node-whole.ensures in
    let from = c.len-from.ensures ∙ c.self.inside.sent.ok.0 in
    acts_counting _ _ (c.args.node - 1) (takes c.args.item) c.self.inside.counters.told c.self.inside.counters.next c.count_from.new.self.told c.count_from.new.self.next c.self.invariant
    (turn_loses (let old : NodesState = record {
      master = c.self.inside.master;
      nodes = c.self.inside.nodes.items;
      sent = c.self.inside.sent.items;
      archive = c.self.inside.archive.items;
      losses = c.self.inside.losses;
    } in old) c.args.node c.in-Some.at x c.step_node-whole.new.node c.args.item c.step_node-whole.new.sent.items c.step_node-whole.result c.counted-self-inside.result took sent)
    refl c.count_from.ensures.active c.count_from.ensures.waits
    (heard_after c.self.inside.sent.items c.step_node-whole.new.sent.items c.deref.result.now _ c.len-from.result c.self.inside.counters.told c.count_from.new.self.told
    c.deref.ensures.value c.step_node-whole.ensures.is from c.count_from.ensures.told)
    (heard_after c.self.inside.sent.items c.step_node-whole.new.sent.items c.deref.result.now _ c.len-from.result c.self.inside.counters.next c.count_from.new.self.next
    c.deref.ensures.value c.step_node-whole.ensures.is from c.count_from.ensures.next)

pub returns-clause-quiet : goal.returns-clause-quiet
returns-clause-quiet c =
    let x = rw (← c.self.view_is) at c.in-Some.ensures.some in
    let took = took_by c.self.inside.nodes.items c.in-Some.at x.core c.index_mut-core.result.now c.args.item c.step_node-whole.new.node c.self.inside.sent.items
    c.step_node-whole.new.sent.items c.step_node-whole.result x.stands c.index_mut-core.ensures.value c.step_node-whole.ensures in
    rw (← c.self.view_is) (turn_rests (let old : NodesState = record {
      master = c.self.inside.master;
      nodes = c.self.inside.nodes.items;
      sent = c.self.inside.sent.items;
      archive = c.self.inside.archive.items;
      losses = c.self.inside.losses;
    } in old) c.args.node c.in-Some.at x c.step_node-whole.new.node c.args.item c.step_node-whole.new.sent.items c.step_node-whole.result c.counted-self-inside.result took
    c.counted-self-inside.ensures)
