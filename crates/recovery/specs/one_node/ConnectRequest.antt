-- The CONNECT of a new connection at the new primary: it is read and proposed.
use Rattle.std.specs.Prelude.{◌≡◌, ℕ, true, List, [], filter, Some, Ok}
use Rattle.packet.specs.declared.connect.Connect.{Connect}
use Rattle.packet.specs.declared.packet.Packet.TheVariants as packets
use Rattle.packet.specs.Verdict.{verdict}
use Rattle.ballot_base.specs.StepOutcome.{Outcome}
use Rattle.ballot_base.specs.Service.{proposed}
use Rattle.agreement.specs.cut_logs.World.{outputs}
use Rattle.broker_spec.specs.declared.command.Command.{Command}
use Rattle.broker_spec.specs.declared.command.Command.TheVariants as commands
use Rattle.broker_spec.specs.declared.command.Output.{Output}
use Rattle.broker_base.specs.State.{State}
use Rattle.world_base.specs.declared.node_connections.connection.Connection.{Connection}
use Rattle.world_base.specs.declared.node_connections.connection.ConnectionStage.TheVariants.{Proposed}
use Rattle.world_base.specs.declared.node_core.item.Item.TheVariants.{Bytes}
use Rattle.world_base.specs.declared.node_connections.port.Port.{Port}
use Rattle.world_base.specs.node_connections.Connections.{awaits_first_packet, is_listed, is_open_at}
use Rattle.world_base.specs.node_connections.ConnectionChanges.{changed_where}
use Rattle.world_base.specs.node_core.Core.{CoreState, rules}
use Rattle.world_base.specs.node_core.PacketInput.{open_at}
use Rattle.world_base.specs.node_core.Step.{node_step}
use Rattle.world_base.specs.node_core.Effects.{has_room}
use Rattle.recovery.specs.one_node.Delivery.{ReportsItsLosses}

-- the connection whose CONNECT became whole at this time
abbrev pub asked_now : ℕ → ℕ → Connection → Connection
asked_now now keep_alive connection =
    record connection { stage = Proposed; keep_alive = keep_alive; last_packet = now; unread = [] }

-- what a proposal does to the node's replica
abbrev pub proposal_at : CoreState → Command → Outcome State Command Output
proposal_at core command = proposed rules core.replica.state command

-- the node that has proposed it, if that has no output yet
abbrev pub with_asked_connect : ℕ → Port → Connect → Command → CoreState → CoreState
with_asked_connect now port connect command core =
    record core {
      replica = record core.replica { state = (proposal_at core command).state };
      connections = filter is_listed
          (changed_where (is_open_at port) (asked_now now connect.keep_alive) core.connections);
    }

-- bytes that are a CONNECT, on a connection that awaits one, at a node whose log has room, are
-- proposed under the connection's name
abbrev pub ConnectIsProposed : Type 0
ConnectIsProposed =
    (core : CoreState) (port : Port) (now : ℕ) (piece : List ℕ) (connection : Connection)
    (connect : Connect) → has_room core ≡ true → ReportsItsLosses core →
    open_at port core ≡ Some connection → awaits_first_packet connection.stage ≡ true →
    connection.unread ≡ [] → verdict piece ≡ Ok (packets.Connect connect, []) →
    outputs
    (proposal_at core (commands.Connect connection.name connect.client connect.clean)).effects
    ≡ [] →
    node_step (Bytes port piece now) core ≡ record {
      core = with_asked_connect now port connect
          (commands.Connect connection.name connect.client connect.clean) core;
      messages = (proposal_at core
          (commands.Connect connection.name connect.client connect.clean)).effects;
    }
