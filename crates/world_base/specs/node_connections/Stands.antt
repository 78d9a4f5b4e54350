-- The state of a connection, as the code that serves its stream sees it.
use Rattle.std.specs.Prelude.{Option, Some, None}
use Rattle.world_base.specs.declared.node_connections.connection.Connection.{Connection}
use Rattle.world_base.specs.declared.node_connections.connection.ConnectionStage.{ConnectionStage}
use Rattle.world_base.specs.declared.node_connections.connection.ConnectionStage.TheVariants as stages
use Rattle.world_base.specs.declared.node_connections.standing.Standing.{Standing}
use Rattle.world_base.specs.declared.node_connections.standing.Standing.TheVariants.{Awaits, Proposed, Closed}

-- the state for the stream's code, by the stage of the connection
abbrev pub standing_at : ConnectionStage → Standing
standing_at stages.Awaits = Awaits
standing_at stages.Proposed = Proposed
standing_at stages.Closed = Closed
standing_at stages.Failed = Closed

-- a connection that does not exist is closed
abbrev pub standing_of : Option Connection → Standing
standing_of None = Closed
standing_of (Some connection) = standing_at connection.stage
