use Rattle.world_nodes.proofs.KeepsAll.{keeps_kept, keeps_lost, keeps_none}
use Rattle.world_nodes.proofs.kept_messages.keep_all.Goals as goal

pub loop-effect-init : goal.loop-effect-init
loop-effect-init c = keeps_none c.args.sent.now.items

pub loop-effect-preserved-then-keep : goal.loop-effect-preserved-then-keep
loop-effect-preserved-then-keep c =
    keeps_kept c.loop-effect.yielded c.args.sent.now.items c.loop-effect.sent.items c.keep.new.sent.items c.loop-effect.whole c.in-Some.effect
    c.loop-effect.invariant c.if-keep.ensures.kept

pub loop-effect-preserved : goal.loop-effect-preserved
loop-effect-preserved c =
    rw c.if-keep.false (keeps_lost c.loop-effect.yielded c.args.sent.now.items c.loop-effect.sent.items c.keep.new.sent.items c.loop-effect.whole c.in-Some.effect
    c.loop-effect.invariant c.if-keep.ensures.lost c.if-keep.ensures.message)
