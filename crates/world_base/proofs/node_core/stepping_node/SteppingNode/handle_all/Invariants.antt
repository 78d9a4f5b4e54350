use Rattle.std.proofs.Common.{◌≡◌, []}
use Rattle.world_base.specs.node_core.Inside.{HandledAll, DoesOutcome}
use Rattle.world_base.specs.node_core.Effects.{handled_all}
use Rattle.world_base.proofs.node_core.stepping_node.SteppingNode.handle_all.Given as goal

abbrev pub invariant-loop-effect : goal.invariant-loop-effect
invariant-loop-effect l = record {
  exact : DoesOutcome l.initial.self l.self l.initial.effects.items l.effects.items (handled_all l.yielded l.initial.self.core);
  lossy : HandledAll l.yielded l.initial.self.core l.self.core l.initial.effects.items l.effects.items;
  nothing : l.yielded ≡ [] → l.self ≡ l.initial.self;
}
