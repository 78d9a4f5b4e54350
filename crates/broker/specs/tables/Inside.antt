-- Definitions for private functions: which packets end their connection, and what a call leaves as
-- it was.
use Rattle.std.specs.Prelude.{◌≡◌, Bool, true, false}
use Rattle.packet.specs.declared.packet.Packet.{Packet}
use Rattle.packet.specs.declared.packet.Packet.TheVariants as packets
use Rattle.subs_base.specs.ListIndex.{content_of}
use Rattle.broker.specs.declared.tables.tables.Tables.{Tables}

-- whether a packet ends its connection: DISCONNECT, and what a client may not send (MQTT-3.1.0-2,
-- MQTT 3.14.4, 4.8)
abbrev pub ends_connection : Packet → Bool
ends_connection (packets.Connect connect) = true
ends_connection (packets.Connack connack) = true
ends_connection (packets.Suback suback) = true
ends_connection (packets.Unsuback id) = true
ends_connection packets.Pingresp = true
ends_connection packets.Disconnect = true
ends_connection _ = false

-- all except the sessions is as it was
pub record HasOthersOf (tables after : Tables) : Type 0 where
  pub window : after.window ≡ tables.window
  pub owners : after.owners.entries ≡ tables.owners.entries
  pub index : content_of after.index ≡ content_of tables.index
  pub retained : after.retained ≡ tables.retained

-- all except the map of connections is as it was
pub record HasOthersThanOwners (tables after : Tables) : Type 0 where
  pub window : after.window ≡ tables.window
  pub sessions : after.sessions.entries ≡ tables.sessions.entries
  pub index : content_of after.index ≡ content_of tables.index
  pub retained : after.retained ≡ tables.retained
