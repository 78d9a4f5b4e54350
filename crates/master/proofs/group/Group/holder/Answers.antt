use Rattle.std.proofs.Common.{◌-◌, get_or, arith}
use Rattle.std.specs.Prelude.{slice_get}
use Rattle.master.specs.Inside.{IsShort}
use Rattle.master.proofs.Groups.{in_nothing, in_taken}
use Rattle.master.proofs.Holders.{holds_at, is_short, is_unknown}
use Rattle.master.proofs.group.Group.holder.Goals.{else-at-len-via-then-at-len+else-held-status, else-at-len-via-else-at-len}
use Rattle.master.proofs.group.Group.holder.Goals as goal

pub loop-member-init : goal.loop-member-init
loop-member-init g c = λ m i. in_nothing m i

pub returns-then-held-status-clause-some : goal.returns-then-held-status-clause-some
returns-then-held-status-clause-some g c =
    rw (← c.self.view_is) (holds_at c.self.inside.nodes.items c.self.inside.master.members c.active.result.1.now c.loop-member.member-index c.saturating_sub-at.result c.args.held
    c.index.result.now c.status.result c.loop-member-test.true c.active.ensures.members c.saturating_sub-at.ensures
    (omega (arith, c.if-at-len.true, c.len.ensures, c.self.inside.nodes.ok.0)) c.index.ensures c.status.ensures c.if-held-status.true)

pub loop-member-preserved : goal.loop-member-preserved
loop-member-preserved g c =
    in_taken c.active.result.1.now c.loop-member.member-index (λ m. IsShort (slice_get c.args.self.now.moment.world.nodes (m - 1)) c.args.held)
    c.loop-member-test.true c.loop-member.invariant
    (rw (← c.self.view_is) (elim c.else-at-len.branch [
      | else-at-len-via-then-at-len+else-held-status w ↦
          is_short c.self.inside.nodes.items (get_or c.active.result.1.now c.loop-member.member-index 0 - 1) c.saturating_sub-at.result c.args.held
          w.index.result.now w.status.result c.saturating_sub-at.ensures
          (omega (arith, w.if-at-len.true, c.len.ensures, c.self.inside.nodes.ok.0)) w.index.ensures w.status.ensures w.if-held-status.false
      | else-at-len-via-else-at-len w ↦
          is_unknown c.self.inside.nodes.items (get_or c.active.result.1.now c.loop-member.member-index 0 - 1) c.saturating_sub-at.result c.args.held
          c.saturating_sub-at.ensures (omega (arith, w.if-at-len.false, c.len.ensures, c.self.inside.nodes.ok.0))
    ]))
