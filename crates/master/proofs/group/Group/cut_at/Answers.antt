use Rattle.std.proofs.Common.{◌≡◌, length, ap, ◌∙◌, refl, arith}
use Rattle.ballot_base.specs.Replica.{CountedReplica, ReplicaState}
use Rattle.master.specs.Outcomes.{cut_outcome}
use Rattle.master.proofs.Archived.{begins_by, taken_back}
use Rattle.master.proofs.Groups.{group_cuts, group_kept}
use Rattle.master.proofs.LossesCounted.{counts_at, counts_cut, counts_lost, counts_set}
use Rattle.master.proofs.StepsOfNodes.{below_of, cut_lost, cut_not, cut_read, same_replica}
use Rattle.master.proofs.Viewed.{within_of}
use Rattle.master.proofs.group.Group.cut_at.Goals as goal

pub record-requires-clause-recorded : goal.record-requires-clause-recorded
record-requires-clause-recorded g c =
    let rules = g.M.Machine.rules in
    let there = rw (← c.self.view_is) at c.requires in
    let group = c.self.invariant.1 in
    let within = within_of rules group.config _ group.moments group.came c.args.at there.0 there.1 in
    let same = same_replica c.self.inside.nodes.items c.args.at c.index-replica.result.now there.0 c.index-replica.ensures there.1 in
    let base = c.snapshot-base.ensures.base ∙ ap (λ (s : ReplicaState g.row.M.Denot g.row.M-Command.Denot). s.log.base) same in omega (arith, within, base)

pub invariant_of-self : goal.invariant_of-self
invariant_of-self g c =
    let rules = g.M.Machine.rules in
    let at : c.len-before.result ≡ length c.self.inside.archive.items = omega (arith, c.len-before.ensures, c.self.inside.archive.ok.0) in
    let kept = c.truncate.ensures.items ∙ taken_back c.self.inside.archive.items c.record.new.archive.items c.len-before.result c.in_default.ensures.err at in (
      c.self.invariant.0,
      group_kept rules c.self.inside.archive.items c.truncate.new.self.items c.self.inside.master c.self.inside.nodes.items c.self.inside.nodes.items c.self.inside.sent.items
          c.self.inside.left.items c.self.inside.told c.self.inside.next kept refl c.self.invariant.1,
      counts_lost c.self.inside.losses c.counted-self-inside.result c.self.inside.nodes.items (omega arith) c.counted-self-inside.ensures c.self.invariant.2,
    )

pub returns-in_default : goal.returns-in_default
returns-in_default g c =
    let rules = g.M.Machine.rules in
    let at : c.len-before.result ≡ length c.self.inside.archive.items = omega (arith, c.len-before.ensures, c.self.inside.archive.ok.0) in
    let kept = c.truncate.ensures.items ∙ taken_back c.self.inside.archive.items c.record.new.archive.items c.len-before.result c.in_default.ensures.err at in
    rw (← c.self.view_is) (λ r stands. cut_lost rules c.self.inside.archive.items c.truncate.new.self.items c.self.inside.master c.self.inside.nodes.items c.self.inside.nodes.items
    c.self.inside.sent.items c.self.inside.left.items c.self.inside.losses c.counted-self-inside.result (cut_outcome rules c.args.at r) kept refl c.counted-self-inside.ensures)

pub index_mut-replica-requires : goal.index_mut-replica-requires
index_mut-replica-requires g c =
    let there = rw (← c.self.view_is) at c.requires in
    let below = below_of c.self.inside.nodes.items c.args.at there.0 there.1 in
    let all = c.self.inside.nodes.ok.0 in omega (arith, below, all)

pub invariant_of-self-then-cut : goal.invariant_of-self-then-cut
invariant_of-self-then-cut g c =
    let rules = g.M.Machine.rules in
    let there = rw (← c.self.view_is) at c.requires in
    let group = c.self.invariant.1 in
    let within = within_of rules group.config _ group.moments group.came c.args.at there.0 there.1 in
    let took = cut_read rules c.self.inside.archive.items c.record.new.archive.items c.rest.result.now c.self.inside.master c.self.inside.nodes.items c.self.inside.sent.items
    c.self.inside.left.items c.self.inside.losses c.args.at c.snapshot-base.result.0 c.index-replica.result.now c.index_mut-replica.result.now c.cut.new.self
    c.status-committed.result there.0 within c.index-replica.ensures c.index_mut-replica.ensures.value there.1 c.snapshot-base.ensures.base c.status-committed.ensures
    c.rest.ensures.rest c.in-Ok.ensures.ok (c.cut.ensures.done c.if-cut.true).1 (c.cut.ensures.thaws c.if-cut.true) in (
      c.self.invariant.0,
      group_cuts rules _ _ c.self.inside.told c.self.inside.next _ _ c.args.at there.0 c.self.invariant.1 refl refl there.1 there.2 took refl,
      counts_set c.self.inside.losses c.self.inside.nodes.items c.args.at c.cut.new.self c.self.invariant.2
          (let same = ap (λ (z : CountedReplica g.row.M.Denot g.row.M-Command.Denot). z.losses) (c.cut.ensures.done c.if-cut.true).1 in
          let low = counts_at c.self.inside.losses c.self.inside.nodes.items c.args.at c.index_mut-replica.result.now c.self.invariant.2
          (below_of c.self.inside.nodes.items c.args.at there.0 there.1) c.index_mut-replica.ensures.value in omega (arith, same, low)),
    )

pub returns-then-cut : goal.returns-then-cut
returns-then-cut g c =
    let rules = g.M.Machine.rules in
    let group = c.self.invariant.1 in
    rw (← c.self.view_is) (λ r stands. cut_read rules c.self.inside.archive.items c.record.new.archive.items c.rest.result.now c.self.inside.master c.self.inside.nodes.items
    c.self.inside.sent.items c.self.inside.left.items c.self.inside.losses c.args.at c.snapshot-base.result.0 c.index-replica.result.now c.index_mut-replica.result.now c.cut.new.self
    c.status-committed.result r (within_of rules group.config _ group.moments group.came c.args.at r stands) c.index-replica.ensures c.index_mut-replica.ensures.value stands
    c.snapshot-base.ensures.base c.status-committed.ensures c.rest.ensures.rest c.in-Ok.ensures.ok (c.cut.ensures.done c.if-cut.true).1 (c.cut.ensures.thaws c.if-cut.true))

pub invariant_of-self-2 : goal.invariant_of-self-2
invariant_of-self-2 g c =
    let rules = g.M.Machine.rules in
    let there = rw (← c.self.view_is) at c.requires in
    let at : c.len-before.result ≡ length c.self.inside.archive.items = omega (arith, c.len-before.ensures, c.self.inside.archive.ok.0) in
    let kept = c.truncate-2.ensures.items
    ∙ taken_back c.self.inside.archive.items c.record.new.archive.items c.len-before.result (begins_by c.self.inside.archive.items c.record.new.archive.items _ c.in-Ok.ensures.ok) at in
    let same = cut_not c.self.inside.nodes.items c.args.at c.index_mut-replica.result.now c.cut.new.self there.0 c.index_mut-replica.ensures.value there.1
    (c.cut.ensures.same c.if-cut.false) in (
      c.self.invariant.0,
      group_kept rules c.self.inside.archive.items c.truncate-2.new.self.items c.self.inside.master c.self.inside.nodes.items _ c.self.inside.sent.items
          c.self.inside.left.items c.self.inside.told c.self.inside.next kept same c.self.invariant.1,
      counts_cut c.self.inside.losses c.counted-self-inside-2.result c.self.inside.nodes.items c.args.at c.index_mut-replica.result.now c.cut.new.self there.0
          (below_of c.self.inside.nodes.items c.args.at there.0 there.1) c.index_mut-replica.ensures.value
          (same_replica c.self.inside.nodes.items c.args.at c.index_mut-replica.result.now there.0 c.index_mut-replica.ensures.value there.1) there.2
          (c.cut.ensures.counts c.if-cut.false) (omega arith) c.counted-self-inside-2.ensures c.self.invariant.2,
    )

pub returns : goal.returns
returns g c =
    let rules = g.M.Machine.rules in
    let at : c.len-before.result ≡ length c.self.inside.archive.items = omega (arith, c.len-before.ensures, c.self.inside.archive.ok.0) in
    let kept = c.truncate-2.ensures.items
    ∙ taken_back c.self.inside.archive.items c.record.new.archive.items c.len-before.result (begins_by c.self.inside.archive.items c.record.new.archive.items _ c.in-Ok.ensures.ok) at in
    rw (← c.self.view_is) (λ r stands. cut_lost rules c.self.inside.archive.items c.truncate-2.new.self.items c.self.inside.master c.self.inside.nodes.items _ c.self.inside.sent.items
    c.self.inside.left.items c.self.inside.losses c.counted-self-inside-2.result (cut_outcome rules c.args.at r) kept
    (cut_not c.self.inside.nodes.items c.args.at c.index_mut-replica.result.now c.cut.new.self r c.index_mut-replica.ensures.value stands (c.cut.ensures.same c.if-cut.false))
    c.counted-self-inside-2.ensures)
