-- How a connection that is lost, silent or failed ends, if memory may run out.
use Rattle.std.specs.Prelude.{◌≡◌, ℕ, true, false, Some, None}
use Rattle.std.specs.List.{find}
use Rattle.broker_spec.specs.declared.command.Command.TheVariants as commands
use Rattle.world_base.specs.declared.node_connections.port.Port.{Port}
use Rattle.world_base.specs.declared.node_connections.connection.Connection.{Connection}
use Rattle.world_base.specs.node_connections.Connections.{has_failed, is_proposed}
use Rattle.world_base.specs.node_connections.ConnectionChanges.{closed_connection}
use Rattle.world_base.specs.node_core.Core.{CoreState}
use Rattle.world_base.specs.node_core.FailedConnections.{closes_failed}
use Rattle.world_base.specs.node_connections.Silent.{lowest_silent}
use Rattle.world_base.specs.node_core.Lossy.{Account, without_effects}
use Rattle.world_base.specs.node_core.LossyProposals.{ProposesCommand}
use Rattle.world_base.specs.node_core.PacketInput.{changes, open_at}

-- the connection of a port is closed as lost, and reported to the broker if its Connect was
-- proposed
pub data EndsConnection (port : Port) (core : CoreState) (account : Account) : Type 0 where
  -- no connection is open at the port
  none_open : open_at port core ≡ None → account ≡ without_effects core →
      EndsConnection port core account
  -- its Connect was not proposed
  unproposed : (connection : Connection) → open_at port core ≡ Some connection →
      is_proposed connection.stage ≡ false →
      account ≡ without_effects (changes port closed_connection core) →
      EndsConnection port core account
  -- its Connect was proposed, so its loss is proposed too
  proposed : (connection : Connection) → open_at port core ≡ Some connection →
      is_proposed connection.stage ≡ true →
      ProposesCommand (commands.Lost connection.name)
      (changes port closed_connection core) account →
      EndsConnection port core account

-- the silent connection with the lowest port ends
pub data EndsSilent (now : ℕ) (core : CoreState) (account : Account) : Type 0 where
  -- no connection is silent
  none_silent : lowest_silent now core.connections ≡ None → account ≡ without_effects core →
      EndsSilent now core account
  -- the one at this port ends
  ends_one : (port : Port) → lowest_silent now core.connections ≡ Some port →
      EndsConnection port core account → EndsSilent now core account

-- the loss of the first connection that failed is reported to the broker
pub data ReportsFailed (core : CoreState) (account : Account) : Type 0 where
  -- no connection failed
  none_failed : find has_failed core.connections ≡ None → account ≡ without_effects core →
      ReportsFailed core account
  -- the loss of this one is proposed
  tells_one : (connection : Connection) → find has_failed core.connections ≡ Some connection →
      ProposesCommand (commands.Lost connection.name) (closes_failed core) account →
      ReportsFailed core account
