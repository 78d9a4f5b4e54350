use Rattle.std.proofs.Common.{refl}
use Rattle.world_base.proofs.of_node_core.Delivering.{delivered_none, delivered_push}
use Rattle.world_base.proofs.of_node_core.Hearing.{ends_some}
use Rattle.world_base.proofs.of_node_core.StepsJoin.{turns_idle, turns_push}
use Rattle.world_base.proofs.node_core.stepping_node.SteppingNode.handle_all.Goals as goal

pub loop-effect-init : goal.loop-effect-init
loop-effect-init c = record {
  exact = turns_idle c.args.self.now c.args.effects.now.items;
  lossy = delivered_none c.args.self.now.core c.args.effects.now.items;
  nothing = λ _. refl;
}

pub loop-effect-preserved : goal.loop-effect-preserved
loop-effect-preserved c = record {
  exact = turns_push _ _ _ _ _ _ c.loop-effect.yielded c.in-Some.effect c.loop-effect.invariant.exact c.handle.ensures.exact;
  lossy = delivered_push _ _ _ _ _ _ c.loop-effect.yielded c.in-Some.effect c.loop-effect.invariant.lossy c.handle.ensures.lossy;
  nothing = λ e. ends_some c.loop-effect.yielded c.in-Some.effect e;
}
