use Rattle.std.proofs.Common.{◌≡◌, ◌+◌, inl, inr, ◌∙◌, ap, length, refl, arith}
use Rattle.world_base.specs.node_core.Core.{CountedCore}
use Rattle.world_base.specs.declared.node_core.item.Item.TheVariants.{Cut}
use Rattle.headline.specs.node_moves.Moves.NodeCall.{takes}
use Rattle.master.proofs.Archived.{taken_back}
use Rattle.master.proofs.Groups.{more_than}
use Rattle.world_nodes.specs.Nodes.{NodesState}
use Rattle.world_nodes.proofs.Acts.{same_core, took_by}
use Rattle.world_nodes.proofs.ActsLosing.{cut_loses}
use Rattle.world_nodes.proofs.CountsGoOn.{acts_counting, heard_after}
use Rattle.world_nodes.proofs.Cutting.{archive_of, below_of, cut_rests, cut_takes, cuts_exactly, is_with_loss, recorded_below, rests_counting}
use Rattle.world_nodes.proofs.nodes.Nodes.cut_at.Goals as goal

pub record-requires-clause-recorded : goal.record-requires-clause-recorded
record-requires-clause-recorded c =
    let there = rw (← c.self.view_is) at c.requires in
    let old : NodesState = record {
      master = c.self.inside.master;
      nodes = c.self.inside.nodes.items;
      sent = c.self.inside.sent.items;
      archive = c.self.inside.archive.items;
      losses = c.self.inside.losses;
    } in
    let low = recorded_below old c.args.at there.0 there.1 there.2 c.self.inside.counters.told c.self.inside.counters.next c.self.invariant in
    let same = same_core old.nodes c.args.at there.0 c.index-core.result.now there.1 c.index-core.ensures in
    let base = c.snapshot-base.ensures.base ∙ ap (λ (z : CountedCore). z.core.replica.state.log.base) same in omega (arith, low, base)

-- ---- there was no memory for the record

pub invariant_of-self : goal.invariant_of-self
invariant_of-self c =
    let old : NodesState = record {
      master = c.self.inside.master;
      nodes = c.self.inside.nodes.items;
      sent = c.self.inside.sent.items;
      archive = c.self.inside.archive.items;
      losses = c.self.inside.losses;
    } in
    let whole : c.len-before.result ≡ length c.self.inside.archive.items = omega (arith, c.len-before.ensures, c.self.inside.archive.ok.0) in
    let kept = c.truncate.ensures.items ∙ taken_back c.self.inside.archive.items c.record.new.archive.items c.len-before.result c.in_default.ensures.err whole in
    rests_counting old c.truncate.new.self.items c.counted-self-inside.result c.self.inside.counters.told c.self.inside.counters.next kept c.self.invariant

pub returns-in_default-clause-lossy : goal.returns-in_default-clause-lossy
returns-in_default-clause-lossy c =
    let there = rw (← c.self.view_is) at c.requires in
    let old : NodesState = record {
      master = c.self.inside.master;
      nodes = c.self.inside.nodes.items;
      sent = c.self.inside.sent.items;
      archive = c.self.inside.archive.items;
      losses = c.self.inside.losses;
    } in
    let whole : c.len-before.result ≡ length c.self.inside.archive.items = omega (arith, c.len-before.ensures, c.self.inside.archive.ok.0) in
    let kept = c.truncate.ensures.items ∙ taken_back c.self.inside.archive.items c.record.new.archive.items c.len-before.result c.in_default.ensures.err whole in
    rw (← c.self.view_is) (cut_rests old c.args.at there.0 there.1 there.2 _
    (is_with_loss old c.truncate.new.self.items c.counted-self-inside.result kept c.counted-self-inside.ensures))

pub returns-in_default-clause-exact : goal.returns-in_default-clause-exact
returns-in_default-clause-exact c =
    let there = rw (← c.self.view_is) at c.requires in
    let old : NodesState = record {
      master = c.self.inside.master;
      nodes = c.self.inside.nodes.items;
      sent = c.self.inside.sent.items;
      archive = c.self.inside.archive.items;
      losses = c.self.inside.losses;
    } in
    let whole : c.len-before.result ≡ length c.self.inside.archive.items = omega (arith, c.len-before.ensures, c.self.inside.archive.ok.0) in
    let kept = c.truncate.ensures.items ∙ taken_back c.self.inside.archive.items c.record.new.archive.items c.len-before.result c.in_default.ensures.err whole in
    rw (← c.self.view_is) (cuts_exactly (c.args.at + 1) old _ (cut_rests old c.args.at there.0 there.1 there.2 _
    (is_with_loss old c.truncate.new.self.items c.counted-self-inside.result kept c.counted-self-inside.ensures)))

pub returns-in_default-clause-acts : goal.returns-in_default-clause-acts
returns-in_default-clause-acts c =
    let old : NodesState = record {
      master = c.self.inside.master;
      nodes = c.self.inside.nodes.items;
      sent = c.self.inside.sent.items;
      archive = c.self.inside.archive.items;
      losses = c.self.inside.losses;
    } in
    let whole : c.len-before.result ≡ length c.self.inside.archive.items = omega (arith, c.len-before.ensures, c.self.inside.archive.ok.0) in
    let kept = c.truncate.ensures.items ∙ taken_back c.self.inside.archive.items c.record.new.archive.items c.len-before.result c.in_default.ensures.err whole in
    rw (← c.self.view_is) (inr (is_with_loss old c.truncate.new.self.items c.counted-self-inside.result kept c.counted-self-inside.ensures))

-- ---- it took the cut

pub index_mut-core-requires : goal.index_mut-core-requires
index_mut-core-requires c =
    let there = rw (← c.self.view_is) at c.requires in
    let below = below_of c.self.inside.nodes.items c.args.at there.0 there.1 in
    let all = c.self.inside.nodes.ok.0 in omega (arith, below, all)

pub count_from-requires : goal.count_from-requires
count_from-requires c =
    more_than c.len-from.result c.self.inside.sent.items _ c.step_node-whole.new.sent.items c.deref.result.now c.deref.ensures.value c.step_node-whole.ensures.is
    (c.len-from.ensures ∙ c.self.inside.sent.ok.0)

pub invariant_of-self-2 : goal.invariant_of-self-2
invariant_of-self-2 c =
    let there = rw (← c.self.view_is) at c.requires in
    let old : NodesState = record {
      master = c.self.inside.master;
      nodes = c.self.inside.nodes.items;
      sent = c.self.inside.sent.items;
      archive = c.self.inside.archive.items;
      losses = c.self.inside.losses;
    } in
    let whole : c.len-before.result ≡ length c.self.inside.archive.items = omega (arith, c.len-before.ensures, c.self.inside.archive.ok.0) in
    let took = took_by c.self.inside.nodes.items c.args.at there.0 c.index_mut-core.result.now Cut c.step_node-whole.new.node c.self.inside.sent.items
    c.step_node-whole.new.sent.items c.step_node-whole.result there.1 c.index_mut-core.ensures.value c.step_node-whole.ensures in
    let archive = archive_of old c.args.at there.0 there.1 there.2 c.self.inside.counters.told c.self.inside.counters.next c.self.invariant c.cut_back.new.archive.items
    c.record.new.archive.items c.rest.result.now c.index-core.result.now c.step_node-whole.new.node c.status-committed.result c.len-before.result c.snapshot-base.result.0
    c.snapshot.result.0 c.index-core.ensures c.snapshot-base.ensures.base c.status-committed.ensures c.rest.ensures.rest whole c.in-Ok.ensures.ok
    c.snapshot.ensures.base c.cut_back.ensures in
    let from = c.len-from.ensures ∙ c.self.inside.sent.ok.0 in
    acts_counting old _ c.args.at (takes Cut) c.self.inside.counters.told c.self.inside.counters.next c.count_from.new.self.told c.count_from.new.self.next c.self.invariant
    (cut_loses old c.args.at there.0 c.step_node-whole.new.node c.step_node-whole.new.sent.items c.cut_back.new.archive.items c.step_node-whole.result
    c.counted-self-inside-2.result there.1 took archive)
    refl c.count_from.ensures.active c.count_from.ensures.waits
    (heard_after c.self.inside.sent.items c.step_node-whole.new.sent.items c.deref.result.now _ c.len-from.result c.self.inside.counters.told c.count_from.new.self.told
    c.deref.ensures.value c.step_node-whole.ensures.is from c.count_from.ensures.told)
    (heard_after c.self.inside.sent.items c.step_node-whole.new.sent.items c.deref.result.now _ c.len-from.result c.self.inside.counters.next c.count_from.new.self.next
    c.deref.ensures.value c.step_node-whole.ensures.is from c.count_from.ensures.next)

pub returns-clause-lossy : goal.returns-clause-lossy
returns-clause-lossy c =
    let there = rw (← c.self.view_is) at c.requires in
    let old : NodesState = record {
      master = c.self.inside.master;
      nodes = c.self.inside.nodes.items;
      sent = c.self.inside.sent.items;
      archive = c.self.inside.archive.items;
      losses = c.self.inside.losses;
    } in
    let whole : c.len-before.result ≡ length c.self.inside.archive.items = omega (arith, c.len-before.ensures, c.self.inside.archive.ok.0) in
    let took = took_by c.self.inside.nodes.items c.args.at there.0 c.index_mut-core.result.now Cut c.step_node-whole.new.node c.self.inside.sent.items
    c.step_node-whole.new.sent.items c.step_node-whole.result there.1 c.index_mut-core.ensures.value c.step_node-whole.ensures in
    let archive = archive_of old c.args.at there.0 there.1 there.2 c.self.inside.counters.told c.self.inside.counters.next c.self.invariant c.cut_back.new.archive.items
    c.record.new.archive.items c.rest.result.now c.index-core.result.now c.step_node-whole.new.node c.status-committed.result c.len-before.result c.snapshot-base.result.0
    c.snapshot.result.0 c.index-core.ensures c.snapshot-base.ensures.base c.status-committed.ensures c.rest.ensures.rest whole c.in-Ok.ensures.ok
    c.snapshot.ensures.base c.cut_back.ensures in
    rw (← c.self.view_is) (cut_takes old c.args.at there.0 there.1 there.2 c.step_node-whole.new.node c.step_node-whole.new.sent.items c.cut_back.new.archive.items c.step_node-whole.result
    c.counted-self-inside-2.result took archive c.counted-self-inside-2.ensures)

pub returns-clause-exact : goal.returns-clause-exact
returns-clause-exact c =
    let there = rw (← c.self.view_is) at c.requires in
    let old : NodesState = record {
      master = c.self.inside.master;
      nodes = c.self.inside.nodes.items;
      sent = c.self.inside.sent.items;
      archive = c.self.inside.archive.items;
      losses = c.self.inside.losses;
    } in
    let whole : c.len-before.result ≡ length c.self.inside.archive.items = omega (arith, c.len-before.ensures, c.self.inside.archive.ok.0) in
    let took = took_by c.self.inside.nodes.items c.args.at there.0 c.index_mut-core.result.now Cut c.step_node-whole.new.node c.self.inside.sent.items
    c.step_node-whole.new.sent.items c.step_node-whole.result there.1 c.index_mut-core.ensures.value c.step_node-whole.ensures in
    let archive = archive_of old c.args.at there.0 there.1 there.2 c.self.inside.counters.told c.self.inside.counters.next c.self.invariant c.cut_back.new.archive.items
    c.record.new.archive.items c.rest.result.now c.index-core.result.now c.step_node-whole.new.node c.status-committed.result c.len-before.result c.snapshot-base.result.0
    c.snapshot.result.0 c.index-core.ensures c.snapshot-base.ensures.base c.status-committed.ensures c.rest.ensures.rest whole c.in-Ok.ensures.ok
    c.snapshot.ensures.base c.cut_back.ensures in
    rw (← c.self.view_is) (cuts_exactly (c.args.at + 1) old _
    (cut_takes old c.args.at there.0 there.1 there.2 c.step_node-whole.new.node c.step_node-whole.new.sent.items c.cut_back.new.archive.items c.step_node-whole.result
    c.counted-self-inside-2.result took archive c.counted-self-inside-2.ensures))

pub returns-clause-acts : goal.returns-clause-acts
returns-clause-acts c =
    let there = rw (← c.self.view_is) at c.requires in
    let old : NodesState = record {
      master = c.self.inside.master;
      nodes = c.self.inside.nodes.items;
      sent = c.self.inside.sent.items;
      archive = c.self.inside.archive.items;
      losses = c.self.inside.losses;
    } in
    let whole : c.len-before.result ≡ length c.self.inside.archive.items = omega (arith, c.len-before.ensures, c.self.inside.archive.ok.0) in
    let took = took_by c.self.inside.nodes.items c.args.at there.0 c.index_mut-core.result.now Cut c.step_node-whole.new.node c.self.inside.sent.items
    c.step_node-whole.new.sent.items c.step_node-whole.result there.1 c.index_mut-core.ensures.value c.step_node-whole.ensures in
    let archive = archive_of old c.args.at there.0 there.1 there.2 c.self.inside.counters.told c.self.inside.counters.next c.self.invariant c.cut_back.new.archive.items
    c.record.new.archive.items c.rest.result.now c.index-core.result.now c.step_node-whole.new.node c.status-committed.result c.len-before.result c.snapshot-base.result.0
    c.snapshot.result.0 c.index-core.ensures c.snapshot-base.ensures.base c.status-committed.ensures c.rest.ensures.rest whole c.in-Ok.ensures.ok
    c.snapshot.ensures.base c.cut_back.ensures in
    rw (← c.self.view_is) (inl
    (cut_loses old c.args.at there.0 c.step_node-whole.new.node c.step_node-whole.new.sent.items c.cut_back.new.archive.items c.step_node-whole.result
    c.counted-self-inside-2.result there.1 took archive))
