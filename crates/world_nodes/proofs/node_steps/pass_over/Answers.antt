use Rattle.std.proofs.Common.{Bool, ℕ, Option, ◌&&◌, sym, ap, subst, ◌∙◌}
use Rattle.std.specs.Prelude.{IfSome}
use Rattle.ballot_base.specs.declared.message.Message.{Message}
use Rattle.broker_spec.specs.declared.command.Command.{Command}
use Rattle.master.proofs.Counting.{get_there}
use Rattle.world_base.specs.declared.node_core.item.Item.TheVariants.{Peer}
use Rattle.world_nodes.specs.Inside.{TookItem}
use Rattle.world_nodes.proofs.Resting.{took_in}
use Rattle.world_nodes.proofs.node_steps.pass_over.Goals as goal

pub returns-else-keep_all : goal.returns-else-keep_all
returns-else-keep_all c =
    subst (λ (o : Option (ℕ × Message Command)). IfSome o (λ (found : ℕ × Message Command). TookItem c.args.node.now (Peer found.1) c.pass_over.new.self c.args.sent.now.items c.keep_all.new.sent.items c.keep_all.result))
    (sym (get_there c.args.sent.now.items c.args.number c.index.result.now c.requires.below c.index.ensures))
    (subst (λ (b : Bool). TookItem c.args.node.now (Peer c.index.result.now.1) c.pass_over.new.self c.args.sent.now.items c.keep_all.new.sent.items b)
    (ap (λ (b : Bool). b && c.is_whole-whole.result) c.if-keep_all.false ∙ sym c.if-keep_all.false)
    (took_in c.args.node.now (Peer c.index.result.now.1) c.pass_over.new.self c.pass_over.new.effects.items c.args.sent.now.items c.keep_all.new.sent.items c.losses-before.result c.losses.result
    c.keep_all.result c.is_whole-whole.result (rw c.new-effects.ensures.items at c.pass_over.ensures) c.keep_all.ensures c.losses-before.ensures c.losses.ensures c.is_whole-whole.ensures.yes
    c.is_whole-whole.ensures.whole))
