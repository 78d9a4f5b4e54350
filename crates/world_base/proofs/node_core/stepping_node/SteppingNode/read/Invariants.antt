use Rattle.std.specs.Prelude.{◌≡◌, None}
use Rattle.world_base.specs.node_core.Inside.{StepPartOrLost, DoesOutcome}
use Rattle.world_base.specs.node_core.PacketInput.{open_at, reads_next}
use Rattle.world_base.specs.node_core.Lossy.{Repeated}
use Rattle.world_base.specs.node_core.LossyPacketInput.{ReadsNext}
use Rattle.world_base.specs.node_core.Effects.{repeated}
use Rattle.world_base.proofs.node_core.stepping_node.SteppingNode.read.Given as goal

abbrev pub invariant-loop-packet : goal.invariant-loop-packet
invariant-loop-packet l = record {
  exact : DoesOutcome l.initial.self l.self l.initial.effects.items l.effects.items (repeated l._packet (reads_next l.initial.now l.initial.port) l.initial.self.core);
  lossy : StepPartOrLost (Repeated l._packet (ReadsNext l.initial.now l.initial.port)) l.initial.self.core l.self.core l.initial.effects.items l.effects.items;
  none : open_at l.initial.port l.initial.self.core ≡ None → l.self ≡ l.initial.self;
}
