use Rattle.std.specs.Prelude.{◌≡◌, None}
use Rattle.world_base.specs.node_connections.Silent.{lowest_silent}
use Rattle.world_base.specs.node_core.Inside.{StepPartOrLost, DoesOutcome}
use Rattle.world_base.specs.node_core.KeepAlive.{ends_silent}
use Rattle.world_base.specs.node_core.Lossy.{Repeated}
use Rattle.world_base.specs.node_core.LossyEndings.{EndsSilent}
use Rattle.world_base.specs.node_core.Effects.{repeated}
use Rattle.world_base.proofs.node_core.stepping_node.SteppingNode.end_silent.Given as goal

abbrev pub invariant-loop-connection : goal.invariant-loop-connection
invariant-loop-connection l = record {
  exact : DoesOutcome l.initial.self l.self l.initial.effects.items l.effects.items (repeated l._connection (ends_silent l.initial.now) l.initial.self.core);
  lossy : StepPartOrLost (Repeated l._connection (EndsSilent l.initial.now)) l.initial.self.core l.self.core l.initial.effects.items l.effects.items;
  none : lowest_silent l.initial.now l.initial.self.core.connections ≡ None → l.self ≡ l.initial.self;
}
