use Rattle.std.proofs.Common.{◌-◌, refl, ◌∙◌}
use Rattle.master.proofs.Groups.{more_than}
use Rattle.world_base.specs.declared.node_core.item.Item.TheVariants.{Peer}
use Rattle.headline.specs.node_moves.Moves.NodeCall.{takes}
use Rattle.world_nodes.specs.Nodes.{NodesState}
use Rattle.world_nodes.proofs.Acts.{after_turn_of, turn_takes}
use Rattle.world_nodes.proofs.ActsLosing.{turn_loses}
use Rattle.world_nodes.proofs.CountsGoOn.{acts_counting, heard_after}
use Rattle.world_nodes.proofs.Exactly.{exactly}
use Rattle.world_nodes.proofs.Resting.{passed_by, passed_over, passes, passes_acting, passes_at_rest, passes_exactly, turn_rests, was_sent}
use Rattle.world_nodes.proofs.nodes.Nodes.pass_over.Goals as goal

pub pass_over-whole-requires-clause-nothing : goal.pass_over-whole-requires-clause-nothing
pass_over-whole-requires-clause-nothing c =
    let p = rw (← c.self.view_is) at c.requires in passed_over (let old : NodesState = record {
      master = c.self.inside.master;
      nodes = c.self.inside.nodes.items;
      sent = c.self.inside.sent.items;
      archive = c.self.inside.archive.items;
      losses = c.self.inside.losses;
    } in old) c.args.at c.args.number p c.index_mut-core.result.now c.index_mut-core.ensures.value

pub returns-clause-lossy : goal.returns-clause-lossy
returns-clause-lossy c =
    let p = rw (← c.self.view_is) at c.requires in
    let took = passed_by (let old : NodesState = record {
      master = c.self.inside.master;
      nodes = c.self.inside.nodes.items;
      sent = c.self.inside.sent.items;
      archive = c.self.inside.archive.items;
      losses = c.self.inside.losses;
    } in old) c.args.at c.args.number p c.index_mut-core.result.now c.pass_over-whole.new.node c.pass_over-whole.new.sent.items c.pass_over-whole.result c.index_mut-core.ensures.value
    c.pass_over-whole.ensures in
    rw (← c.self.view_is) (passes c.args.at c.args.number (let old : NodesState = record {
      master = c.self.inside.master;
      nodes = c.self.inside.nodes.items;
      sent = c.self.inside.sent.items;
      archive = c.self.inside.archive.items;
      losses = c.self.inside.losses;
    } in old) (after_turn_of c.args.at c.pass_over-whole.new.node c.pass_over-whole.new.sent.items c.counted-self-inside.result (let old : NodesState = record {
      master = c.self.inside.master;
      nodes = c.self.inside.nodes.items;
      sent = c.self.inside.sent.items;
      archive = c.self.inside.archive.items;
      losses = c.self.inside.losses;
    } in old)) p
    (turn_takes (let old : NodesState = record {
      master = c.self.inside.master;
      nodes = c.self.inside.nodes.items;
      sent = c.self.inside.sent.items;
      archive = c.self.inside.archive.items;
      losses = c.self.inside.losses;
    } in old) p.node c.args.at p.runs c.pass_over-whole.new.node (Peer p.message) c.pass_over-whole.new.sent.items c.pass_over-whole.result c.counted-self-inside.result took c.counted-self-inside.ensures))

pub returns-clause-exact : goal.returns-clause-exact
returns-clause-exact c =
    let p = rw (← c.self.view_is) at c.requires in
    let took = passed_by (let old : NodesState = record {
      master = c.self.inside.master;
      nodes = c.self.inside.nodes.items;
      sent = c.self.inside.sent.items;
      archive = c.self.inside.archive.items;
      losses = c.self.inside.losses;
    } in old) c.args.at c.args.number p c.index_mut-core.result.now c.pass_over-whole.new.node c.pass_over-whole.new.sent.items c.pass_over-whole.result c.index_mut-core.ensures.value
    c.pass_over-whole.ensures in
    rw (← c.self.view_is) (λ none. passes_exactly c.args.at c.args.number (let old : NodesState = record {
      master = c.self.inside.master;
      nodes = c.self.inside.nodes.items;
      sent = c.self.inside.sent.items;
      archive = c.self.inside.archive.items;
      losses = c.self.inside.losses;
    } in old) (after_turn_of c.args.at c.pass_over-whole.new.node c.pass_over-whole.new.sent.items c.counted-self-inside.result (let old : NodesState = record {
      master = c.self.inside.master;
      nodes = c.self.inside.nodes.items;
      sent = c.self.inside.sent.items;
      archive = c.self.inside.archive.items;
      losses = c.self.inside.losses;
    } in old)) p
    (exactly p.node (Peer p.message) (let old : NodesState = record {
      master = c.self.inside.master;
      nodes = c.self.inside.nodes.items;
      sent = c.self.inside.sent.items;
      archive = c.self.inside.archive.items;
      losses = c.self.inside.losses;
    } in old) (after_turn_of c.args.at c.pass_over-whole.new.node c.pass_over-whole.new.sent.items c.counted-self-inside.result (let old : NodesState = record {
      master = c.self.inside.master;
      nodes = c.self.inside.nodes.items;
      sent = c.self.inside.sent.items;
      archive = c.self.inside.archive.items;
      losses = c.self.inside.losses;
    } in old)) (turn_takes (let old : NodesState = record {
      master = c.self.inside.master;
      nodes = c.self.inside.nodes.items;
      sent = c.self.inside.sent.items;
      archive = c.self.inside.archive.items;
      losses = c.self.inside.losses;
    } in old) p.node c.args.at p.runs c.pass_over-whole.new.node (Peer p.message) c.pass_over-whole.new.sent.items c.pass_over-whole.result c.counted-self-inside.result took c.counted-self-inside.ensures) none))

pub returns-clause-quiet : goal.returns-clause-quiet
returns-clause-quiet c =
    let p = rw (← c.self.view_is) at c.requires in
    let took = passed_by (let old : NodesState = record {
      master = c.self.inside.master;
      nodes = c.self.inside.nodes.items;
      sent = c.self.inside.sent.items;
      archive = c.self.inside.archive.items;
      losses = c.self.inside.losses;
    } in old) c.args.at c.args.number p c.index_mut-core.result.now c.pass_over-whole.new.node c.pass_over-whole.new.sent.items c.pass_over-whole.result c.index_mut-core.ensures.value
    c.pass_over-whole.ensures in
    rw (← c.self.view_is) (λ rests. passes_exactly c.args.at c.args.number (let old : NodesState = record {
      master = c.self.inside.master;
      nodes = c.self.inside.nodes.items;
      sent = c.self.inside.sent.items;
      archive = c.self.inside.archive.items;
      losses = c.self.inside.losses;
    } in old) (after_turn_of c.args.at c.pass_over-whole.new.node c.pass_over-whole.new.sent.items c.counted-self-inside.result (let old : NodesState = record {
      master = c.self.inside.master;
      nodes = c.self.inside.nodes.items;
      sent = c.self.inside.sent.items;
      archive = c.self.inside.archive.items;
      losses = c.self.inside.losses;
    } in old)) p
    (turn_rests (let old : NodesState = record {
      master = c.self.inside.master;
      nodes = c.self.inside.nodes.items;
      sent = c.self.inside.sent.items;
      archive = c.self.inside.archive.items;
      losses = c.self.inside.losses;
    } in old) p.node c.args.at p.runs c.pass_over-whole.new.node (Peer p.message) c.pass_over-whole.new.sent.items c.pass_over-whole.result c.counted-self-inside.result took c.counted-self-inside.ensures (passes_at_rest c.args.at c.args.number (let old : NodesState = record {
      master = c.self.inside.master;
      nodes = c.self.inside.nodes.items;
      sent = c.self.inside.sent.items;
      archive = c.self.inside.archive.items;
      losses = c.self.inside.losses;
    } in old) p rests)))

pub returns-clause-acts : goal.returns-clause-acts
returns-clause-acts c =
    let p = rw (← c.self.view_is) at c.requires in
    let took = passed_by (let old : NodesState = record {
      master = c.self.inside.master;
      nodes = c.self.inside.nodes.items;
      sent = c.self.inside.sent.items;
      archive = c.self.inside.archive.items;
      losses = c.self.inside.losses;
    } in old) c.args.at c.args.number p c.index_mut-core.result.now c.pass_over-whole.new.node c.pass_over-whole.new.sent.items c.pass_over-whole.result c.index_mut-core.ensures.value
    c.pass_over-whole.ensures in
    rw (← c.self.view_is) (passes_acting c.args.at c.args.number (let old : NodesState = record {
      master = c.self.inside.master;
      nodes = c.self.inside.nodes.items;
      sent = c.self.inside.sent.items;
      archive = c.self.inside.archive.items;
      losses = c.self.inside.losses;
    } in old) (after_turn_of c.args.at c.pass_over-whole.new.node c.pass_over-whole.new.sent.items c.counted-self-inside.result (let old : NodesState = record {
      master = c.self.inside.master;
      nodes = c.self.inside.nodes.items;
      sent = c.self.inside.sent.items;
      archive = c.self.inside.archive.items;
      losses = c.self.inside.losses;
    } in old)) p
    (turn_loses (let old : NodesState = record {
      master = c.self.inside.master;
      nodes = c.self.inside.nodes.items;
      sent = c.self.inside.sent.items;
      archive = c.self.inside.archive.items;
      losses = c.self.inside.losses;
    } in old) p.node c.args.at p.runs c.pass_over-whole.new.node (Peer p.message) c.pass_over-whole.new.sent.items c.pass_over-whole.result c.counted-self-inside.result took (was_sent (let old : NodesState = record {
      master = c.self.inside.master;
      nodes = c.self.inside.nodes.items;
      sent = c.self.inside.sent.items;
      archive = c.self.inside.archive.items;
      losses = c.self.inside.losses;
    } in old) c.args.at c.args.number p)))

pub count_from-requires : goal.count_from-requires
count_from-requires c =
    let p = rw (← c.self.view_is) at c.requires in
    let took = passed_by (let old : NodesState = record {
      master = c.self.inside.master;
      nodes = c.self.inside.nodes.items;
      sent = c.self.inside.sent.items;
      archive = c.self.inside.archive.items;
      losses = c.self.inside.losses;
    } in old) c.args.at c.args.number p c.index_mut-core.result.now c.pass_over-whole.new.node c.pass_over-whole.new.sent.items c.pass_over-whole.result c.index_mut-core.ensures.value
    c.pass_over-whole.ensures in
    more_than c.len-from.result c.self.inside.sent.items _ c.pass_over-whole.new.sent.items c.deref.result.now c.deref.ensures.value took.is
    (c.len-from.ensures ∙ c.self.inside.sent.ok.0)

pub invariant_of-self : goal.invariant_of-self
invariant_of-self c =
    let p = rw (← c.self.view_is) at c.requires in
    let took = passed_by (let old : NodesState = record {
      master = c.self.inside.master;
      nodes = c.self.inside.nodes.items;
      sent = c.self.inside.sent.items;
      archive = c.self.inside.archive.items;
      losses = c.self.inside.losses;
    } in old) c.args.at c.args.number p c.index_mut-core.result.now c.pass_over-whole.new.node c.pass_over-whole.new.sent.items c.pass_over-whole.result c.index_mut-core.ensures.value
    c.pass_over-whole.ensures in
    let from = c.len-from.ensures ∙ c.self.inside.sent.ok.0 in
    acts_counting _ _ (p.node - 1) (takes (Peer p.message)) c.self.inside.counters.told c.self.inside.counters.next c.count_from.new.self.told c.count_from.new.self.next c.self.invariant
    (turn_loses (let old : NodesState = record {
      master = c.self.inside.master;
      nodes = c.self.inside.nodes.items;
      sent = c.self.inside.sent.items;
      archive = c.self.inside.archive.items;
      losses = c.self.inside.losses;
    } in old) p.node c.args.at p.runs c.pass_over-whole.new.node (Peer p.message) c.pass_over-whole.new.sent.items c.pass_over-whole.result c.counted-self-inside.result took (was_sent (let old : NodesState = record {
      master = c.self.inside.master;
      nodes = c.self.inside.nodes.items;
      sent = c.self.inside.sent.items;
      archive = c.self.inside.archive.items;
      losses = c.self.inside.losses;
    } in old) c.args.at c.args.number p))
    refl c.count_from.ensures.active c.count_from.ensures.waits
    (heard_after c.self.inside.sent.items c.pass_over-whole.new.sent.items c.deref.result.now _ c.len-from.result c.self.inside.counters.told c.count_from.new.self.told
    c.deref.ensures.value took.is from c.count_from.ensures.told)
    (heard_after c.self.inside.sent.items c.pass_over-whole.new.sent.items c.deref.result.now _ c.len-from.result c.self.inside.counters.next c.count_from.new.self.next
    c.deref.ensures.value took.is from c.count_from.ensures.next)
