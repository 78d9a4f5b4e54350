-- A connection that waits for its CONNECT and then for its answer, while other messages come and
-- bytes are handed over.
use Rattle.std.specs.Prelude.{◌≡◌, ℕ, true, false, [], None, Some}
use Rattle.std.specs.List.{find, list_any}
use Rattle.packet.specs.declared.connect.Connect.{Connect}
use Rattle.ballot_base.specs.declared.message.Message.{Message}
use Rattle.ballot_base.specs.Replica.{is_active}
use Rattle.broker_spec.specs.declared.command.Command.{Command}
use Rattle.broker_spec.specs.Connection.{ConnectionName}
use Rattle.agreement.specs.cut_logs.World.{outputs}
use Rattle.world_base.specs.declared.node_connections.connection.Connection.{Connection}
use Rattle.world_base.specs.declared.node_core.item.Item.TheVariants.{Peer}
use Rattle.world_base.specs.declared.node_connections.port.Port.{Port}
use Rattle.world_base.specs.node_connections.Connections.{is_at, awaits_first_packet, is_open_named}
use Rattle.world_base.specs.node_core.Core.{CoreState}
use Rattle.world_base.specs.node_core.PortOutput.{hands_over, listed_at}
use Rattle.world_base.specs.node_core.PacketInput.{open_at}
use Rattle.world_base.specs.node_core.Step.{node_step}
use Rattle.recovery.specs.one_node.ConnectRequest.{with_asked_connect}
use Rattle.recovery.specs.one_node.Delivery.{ReportsItsLosses, heard_by}
use Rattle.recovery.specs.one_node.Opening.{first_name_of_node, with_first_connection}

-- a connection of this name at this port is open, and nothing was queued for it
pub record AwaitsAnswer (port : Port) (name : ConnectionName) (core : CoreState) : Type 0 where
  pub connection : Connection
  pub listed : listed_at port core ≡ Some connection
  pub named : find (is_open_named name) core.connections ≡ Some connection
  pub none : connection.pending ≡ []

-- a connection still awaits its answer after a calm node that keeps leading took a message for
-- which its replica has no output
abbrev pub MessagesKeepItWaiting : Type 0
MessagesKeepItWaiting =
    (port : Port) (name : ConnectionName) (core : CoreState) (message : Message Command) →
    AwaitsAnswer port name core → ReportsItsLosses core →
    core.replica.state.stopped ≡ false → outputs (heard_by core message).effects ≡ [] →
    is_active (heard_by core message).state.role ≡ true →
    (heard_by core message).state.stopped ≡ false →
    AwaitsAnswer port name (node_step (Peer message) core).core

-- a connection that awaits its answer still does when bytes are handed over, at whichever port
abbrev pub HandingKeepsItWaiting : Type 0
HandingKeepsItWaiting =
    (port other : Port) (name : ConnectionName) (core : CoreState) → AwaitsAnswer port name core →
    AwaitsAnswer port name (hands_over other core)

-- a connection of this name at this port is open, its CONNECT has not arrived, and nothing was
-- queued for it
pub record AwaitsConnect (port : Port) (called : ConnectionName) (core : CoreState) : Type 0 where
  pub waits : AwaitsAnswer port called core
  pub name : waits.connection.name ≡ called
  pub opened : open_at port core ≡ Some waits.connection
  pub first : awaits_first_packet waits.connection.stage ≡ true
  pub unread : waits.connection.unread ≡ []

-- The first connection of a ballot awaits its CONNECT, at a port for which the node lists none, if
-- no open connection has its name.
abbrev pub FirstAwaitsConnect : Type 0
FirstAwaitsConnect =
    (port : Port) (core : CoreState) → list_any (is_at port) core.connections ≡ false →
    find (is_open_named (first_name_of_node core)) core.connections ≡ None →
    AwaitsConnect port (first_name_of_node core) (with_first_connection port core)

-- a connection still awaits its CONNECT after bytes were handed over, at whichever port
abbrev pub HandingKeepsTheConnect : Type 0
HandingKeepsTheConnect =
    (port other : Port) (name : ConnectionName) (core : CoreState) → AwaitsConnect port name core →
    AwaitsConnect port name (hands_over other core)

-- a connection whose CONNECT is proposed waits for the answer
abbrev pub AskedAwaitsAnswer : Type 0
AskedAwaitsAnswer =
    (port : Port) (name : ConnectionName) (core : CoreState) (now : ℕ) (connect : Connect)
    (command : Command) → AwaitsConnect port name core →
    AwaitsAnswer port name (with_asked_connect now port connect command core)
