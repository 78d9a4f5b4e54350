use Rattle.std.proofs.Common.{◌≡◌, [], ◌∷◌, ap, sym, ◌∙◌, subst, refl, arith}
use Rattle.ballot_base.specs.LawfulConfig.{max_node}
use Rattle.ballot_base.specs.Replica.{CountedReplica}
use Rattle.agreement.specs.cut_logs.World.{messages}
use Rattle.agreement.specs.cut_logs.Moments.{Moment, Moments}
use Rattle.agreement.specs.cut_logs.Moments.Moments.{began}
use Rattle.master.specs.Group.{GroupState}
use Rattle.master.proofs.Groups.{group_opens}
use Rattle.master.proofs.LossesCounted.{counts_opened}
use Rattle.master.proofs.StepsOfNodes.{opened_moment, opened_more}
use Rattle.master.proofs.group.Group.opening_with.Goals as goal

pub loop-at-preserved : goal.loop-at-preserved
loop-at-preserved g c =
    let rules = g.M.Machine.rules in (
      opened_more rules c.args.config c.loop-at.opened.items c.push.new.self.items c.in_ok-new.field-0 c.loop-at.at
          c.loop-at.invariant.0 (ap (λ (z : CountedReplica _ _). z.state) c.in_ok-new.ensures.ok) c.in_ok-push.ensures.items,
      counts_opened c.loop-at.opened.items c.push.new.self.items c.in_ok-new.field-0 c.loop-at.invariant.1
          (ap (λ (z : CountedReplica _ _). z.losses) c.in_ok-new.ensures.ok) c.in_ok-push.ensures.items,
    )

pub invariant_of-result : goal.invariant_of-result
invariant_of-result g c =
    let rules = g.M.Machine.rules in
    let count : c.loop-at.at ≡ c.args.nodes = (let a = c.loop-at.auto.at-end in omega (arith, a, c.loop-at-test.false)) in
    let opened = opened_moment rules c.new-7.result.items c.args.config c.args.nodes c.loop-at.at c.in-Ok.master c.loop-at.opened.items c.new-5.result.items c.new-6.result.items
    c.in-Ok.ensures.ok c.loop-at.invariant.0 count c.new-5.ensures.items c.new-6.ensures.items c.new-7.ensures.items in (
      ap messages c.new-6.ensures.items,
      group_opens rules c.args.nodes c.args.config _ c.in_ok-told.told c.in_ok-next.next (sym c.can_open.ensures ∙ c.if-not-can_open.false) opened
          c.in_ok-told.ensures.ballot c.in_ok-told.ensures.counted c.in_ok-next.ensures.counted,
      c.loop-at.invariant.1,
    )

pub returns-clause-ok : goal.returns-clause-ok
returns-clause-ok g c =
    let rules = g.M.Machine.rules in
    let count : c.loop-at.at ≡ c.args.nodes = (let a = c.loop-at.auto.at-end in omega (arith, a, c.loop-at-test.false)) in
    let opened = opened_moment rules c.new-7.result.items c.args.config c.args.nodes c.loop-at.at c.in-Ok.master c.loop-at.opened.items c.new-5.result.items c.new-6.result.items
    c.in-Ok.ensures.ok c.loop-at.invariant.0 count c.new-5.ensures.items c.new-6.ensures.items c.new-7.ensures.items in
    ap (λ (a : Moment g.row.M.Denot g.row.M-Command.Denot g.row.M-Output.Denot).
    let z : GroupState g.row.M.Denot g.row.M-Command.Denot g.row.M-Output.Denot = record { moment = a; losses = 0 } in z) opened

pub returns-clause-opens : goal.returns-clause-opens
returns-clause-opens g c =
    let rules = g.M.Machine.rules in
    let count : c.loop-at.at ≡ c.args.nodes = (let a = c.loop-at.auto.at-end in omega (arith, a, c.loop-at-test.false)) in
    let opened = opened_moment rules c.new-7.result.items c.args.config c.args.nodes c.loop-at.at c.in-Ok.master c.loop-at.opened.items c.new-5.result.items c.new-6.result.items
    c.in-Ok.ensures.ok c.loop-at.invariant.0 count c.new-5.ensures.items c.new-6.ensures.items c.new-7.ensures.items in
    subst (λ (a : Moment g.row.M.Denot g.row.M-Command.Denot g.row.M-Output.Denot). Moments rules c.args.config (a ∷ [])) (sym opened)
    (began max_node c.args.nodes (sym c.can_open.ensures ∙ c.if-not-can_open.false) refl)
