use Rattle.std.proofs.Common.{◌-◌, ℕ, List, ap, sym, ◌∙◌, subst, get_or, arith}
use Rattle.std.specs.Prelude.{slice_get}
use Rattle.lists.specs.Lists.{In}
use Rattle.master.specs.Inside.{IsShort}
use Rattle.master.proofs.Groups.{in_nothing, in_taken, in_whole}
use Rattle.world_nodes.specs.Inside.{replicas_of}
use Rattle.world_nodes.specs.Nodes.{NodesState}
use Rattle.world_nodes.proofs.AgreedCounted.{holds_at, is_short, is_unknown}
use Rattle.world_nodes.proofs.nodes.Nodes.holder.Goals.{else-at-len-via-then-at-len+else-held-status, else-at-len-via-else-at-len}
use Rattle.world_nodes.proofs.nodes.Nodes.holder.Goals as goal

pub loop-member-init : goal.loop-member-init
loop-member-init c = λ m i. in_nothing m i

pub returns-then-held-status-clause-some : goal.returns-then-held-status-clause-some
returns-then-held-status-clause-some c =
    rw (← c.self.view_is) (holds_at c.self.inside.nodes.items c.self.inside.master.members c.active.result.1.now c.loop-member.member-index c.saturating_sub-at.result c.args.held
    c.index.result.now c.status.result c.loop-member-test.true c.active.ensures.members c.saturating_sub-at.ensures
    (omega (arith, c.if-at-len.true, c.len.ensures, c.self.inside.nodes.ok.0)) c.index.ensures c.status.ensures c.if-held-status.true)

pub loop-member-preserved : goal.loop-member-preserved
loop-member-preserved c =
    in_taken c.active.result.1.now c.loop-member.member-index (λ m. IsShort (slice_get (replicas_of c.args.self.now.nodes) (m - 1)) c.args.held)
    c.loop-member-test.true c.loop-member.invariant
    (rw (← c.self.view_is) (elim c.else-at-len.branch [
      | else-at-len-via-then-at-len+else-held-status w ↦
          is_short c.self.inside.nodes.items (get_or c.active.result.1.now c.loop-member.member-index 0 - 1) c.saturating_sub-at.result c.args.held
          w.index.result.now w.status.result c.saturating_sub-at.ensures
          (omega (arith, w.if-at-len.true, c.len.ensures, c.self.inside.nodes.ok.0)) w.index.ensures w.status.ensures w.if-held-status.false
      | else-at-len-via-else-at-len w ↦
          is_unknown c.self.inside.nodes.items (get_or c.active.result.1.now c.loop-member.member-index 0 - 1) c.saturating_sub-at.result c.args.held
          c.saturating_sub-at.ensures (omega (arith, w.if-at-len.false, c.len.ensures, c.self.inside.nodes.ok.0))
    ]))

pub returns-clause-none : goal.returns-clause-none
returns-clause-none c =
    let members = c.active.ensures.members ∙ ap (λ (z : NodesState). z.master.members) c.self.view_is in
    λ h m i. c.loop-member.invariant m (in_whole c.active.result.1.now c.loop-member.member-index m c.loop-member-test.false (subst (λ (ms : List ℕ). In m ms) (sym members) i))
