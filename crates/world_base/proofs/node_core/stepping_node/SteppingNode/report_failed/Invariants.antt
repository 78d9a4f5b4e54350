use Rattle.std.specs.Prelude.{◌≡◌, None}
use Rattle.std.specs.List.{find}
use Rattle.world_base.specs.node_connections.Connections.{has_failed}
use Rattle.world_base.specs.node_core.FailedConnections.{reports_failed}
use Rattle.world_base.specs.node_core.Inside.{StepPartOrLost, DoesOutcome}
use Rattle.world_base.specs.node_core.Lossy.{Repeated}
use Rattle.world_base.specs.node_core.LossyEndings.{ReportsFailed}
use Rattle.world_base.specs.node_core.Effects.{repeated}
use Rattle.world_base.proofs.node_core.stepping_node.SteppingNode.report_failed.Given as goal

abbrev pub invariant-loop-connection : goal.invariant-loop-connection
invariant-loop-connection l = record {
  exact : DoesOutcome l.initial.self l.self l.initial.effects.items l.effects.items (repeated l._connection (reports_failed) l.initial.self.core);
  lossy : StepPartOrLost (Repeated l._connection (ReportsFailed)) l.initial.self.core l.self.core l.initial.effects.items l.effects.items;
  none : find has_failed l.initial.self.core.connections ≡ None → l.self ≡ l.initial.self;
}
