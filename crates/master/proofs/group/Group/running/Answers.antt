use Rattle.std.proofs.Common.{◌≡◌, ◌<◌, ◌≤◌, length, ap, sym, ◌∙◌, false, arith}
use Rattle.ballot_base.specs.declared.status.Status.{Status}
use Rattle.master.proofs.StepsOfNodes.{runs_at, stopped_there}
use Rattle.master.proofs.group.Group.running.Goals as goal

pub returns-then-status-clause-none : goal.returns-then-status-clause-none
returns-then-status-clause-none g c =
    let below : c.args.node ≤ length c.self.inside.nodes.items = omega (arith, c.self.inside.nodes.ok.0, c.len.ensures, c.if-node-len.false) in
    let positive : 0 < c.args.node = omega (arith, c.if-node-eq0.false) in
    rw (← c.self.view_is) (λ h. stopped_there c.self.inside.nodes.items c.args.node c.index.result.now c.status.result positive below
    c.index.ensures c.status.ensures c.if-status.true)

pub returns-clause-some : goal.returns-clause-some
returns-clause-some g c =
    let below : c.args.node ≤ length c.self.inside.nodes.items = omega (arith, c.self.inside.nodes.ok.0, c.len.ensures, c.if-node-len.false) in
    let positive : 0 < c.args.node = omega (arith, c.if-node-eq0.false) in
    let going : c.index.result.now.state.stopped ≡ false = sym (ap (λ (s : Status). s.stopped) c.status.ensures) ∙ c.if-status.false in
    rw (← c.self.view_is) (runs_at c.self.inside.nodes.items c.args.node c.index.result.now positive below c.index.ensures going)
