-- What happens to a connection whose CONNECT is refused with a code.
use Rattle.packet_base.specs.declared.refusal_code.RefusalCode.{RefusalCode}
use Rattle.packet.specs.declared.packet.Packet.TheVariants as packets
use Rattle.packet.specs.declared.connack.Connack.TheVariants as connacks
use Rattle.packet.specs.Spelling.{spelling}
use Rattle.world_base.specs.declared.node_connections.connection.Connection.{Connection}
use Rattle.world_base.specs.node_connections.ConnectionChanges.{closed_connection, putting}

-- a CONNECT that is refused with a code is answered, and then closed (MQTT 3.2.2.3)
abbrev pub connect_refused : RefusalCode → Connection → Connection
connect_refused code connection = closed_connection
    (putting (spelling (packets.Connack (connacks.Refused code))) connection)
