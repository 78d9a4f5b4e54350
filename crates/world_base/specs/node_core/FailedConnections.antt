-- Connections that were closed because there was no room for their output: their loss is reported
-- to the broker.
use Rattle.std.specs.Prelude.{length, Option, Some, None}
use Rattle.std.specs.List.{find}
use Rattle.broker_spec.specs.declared.command.Command.TheVariants as commands
use Rattle.world_base.specs.declared.node_connections.connection.Connection.{Connection}
use Rattle.world_base.specs.node_connections.Connections.{has_failed}
use Rattle.world_base.specs.node_connections.ConnectionChanges.{closed_connection, changed_where}
use Rattle.world_base.specs.node_core.Core.{CoreState, StepOutcome}
use Rattle.world_base.specs.node_core.Effects.{without_messages, proposes, repeated}

-- the first failed connection is closed for good
abbrev pub closes_failed : CoreState → CoreState
closes_failed core = record core {
  connections =
      changed_where has_failed closed_connection core.connections;
}

-- a failed connection, if there is one, is closed for good, and its loss is proposed
abbrev pub reports_if : Option Connection → CoreState → StepOutcome
reports_if None core = without_messages core
reports_if (Some connection) core = proposes (commands.Lost connection.name) (closes_failed core)

-- the loss of the first failed connection is reported to the broker
unfoldable pub reports_failed : CoreState → StepOutcome
reports_failed core = reports_if (find has_failed core.connections) core

-- the loss of all failed connections is reported; what is then sent may close others, reported too
abbrev pub reports_all_failed : CoreState → StepOutcome
reports_all_failed core = repeated (length core.connections) reports_failed core
