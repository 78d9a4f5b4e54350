use Rattle.std.proofs.Common.{Bool, ◌&&◌, sym, ap, subst, ◌∙◌}
use Rattle.world_nodes.specs.Inside.{TookItem}
use Rattle.world_nodes.proofs.Resting.{took_in}
use Rattle.world_nodes.proofs.node_steps.step_node.Goals as goal

pub returns-else-keep_all : goal.returns-else-keep_all
returns-else-keep_all c =
    subst (λ (b : Bool). TookItem c.args.node.now c.args.item c.step.new.self c.args.sent.now.items c.keep_all.new.sent.items b)
    (ap (λ (b : Bool). b && c.is_whole-whole.result) c.if-keep_all.false ∙ sym c.if-keep_all.false)
    (took_in c.args.node.now c.args.item c.step.new.self c.step.new.effects.items c.args.sent.now.items c.keep_all.new.sent.items c.losses-before.result c.losses.result c.keep_all.result
    c.is_whole-whole.result (rw c.new-effects.ensures.items at c.step.ensures) c.keep_all.ensures c.losses-before.ensures c.losses.ensures c.is_whole-whole.ensures.yes c.is_whole-whole.ensures.whole)
