-- Crossing.antt: a node may be handed from thread to thread, since its machine may.
use denote.Param.Send.{IsSend, sendable}
use Rattle.ballot.proofs.replica.Replica.TheSendSync as replica
use Rattle.broker.proofs.Crossing.{machine_send}
use Rattle.broker_spec.proofs.command.Command.TheSendSync as command
use Rattle.std.proofs.Crossing.{crosses}
use Rattle.world_base.proofs.node_connections.connection.Connection.TheSendSync as connection
use Rattle.world_base.specs.contracts.node_core.node_core.NodeCore as NodeCore

pub core_send : IsSend NodeCore.the_row
core_send = search (machine_send, replica.the_send, command.the_send, connection.the_send, crosses, sendable) depth 60
