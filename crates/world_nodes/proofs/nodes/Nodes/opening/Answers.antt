use Rattle.std.proofs.Common.{◌≡◌, sym, ◌∙◌, arith}
use Rattle.world_nodes.proofs.CountsGoOn.{opens_counting}
use Rattle.world_nodes.proofs.Opens.{opened_all, opened_more}
use Rattle.world_nodes.proofs.nodes.Nodes.opening.Goals as goal

pub loop-at-preserved : goal.loop-at-preserved
loop-at-preserved c =
    opened_more c.args.config c.loop-at.at c.loop-at.opened.items c.push.new.self.items c.in_ok-new.field-0 c.loop-at.invariant c.in_ok-new.ensures.ok c.in_ok-push.ensures.items

pub returns-clause-opens : goal.returns-clause-opens
returns-clause-opens c =
    let count : c.loop-at.at ≡ c.args.nodes = (let a = c.loop-at.auto.at-end in omega (arith, a, c.loop-at-test.false)) in
    opened_all c.args.config c.args.nodes c.loop-at.at c.in-Ok.master c.loop-at.opened.items c.new-4.result.items c.new-5.result.items 0 c.in-Ok.ensures.ok c.loop-at.invariant count c.new-4.ensures.items c.new-5.ensures.items

pub invariant_of-result : goal.invariant_of-result
invariant_of-result c =
    let count : c.loop-at.at ≡ c.args.nodes = (let a = c.loop-at.auto.at-end in omega (arith, a, c.loop-at-test.false)) in
    opens_counting c.args.nodes c.args.config _ c.in_ok-counters.counters.told c.in_ok-counters.counters.next (sym c.can_open.ensures ∙ c.if-not-can_open.false)
    (opened_all c.args.config c.args.nodes c.loop-at.at c.in-Ok.master c.loop-at.opened.items c.new-4.result.items c.new-5.result.items 0 c.in-Ok.ensures.ok c.loop-at.invariant count c.new-4.ensures.items c.new-5.ensures.items)
    c.in_ok-counters.ensures.active c.in_ok-counters.ensures.untold c.in_ok-counters.ensures.next
