-- The next packet of a connection, and what reading it does.
use Rattle.std.specs.Prelude.{◌≡◌, ◌⊎◌, true, false, if◌then◌else◌, List, ℕ, Result, Ok, Err}
use Rattle.packet_base.specs.declared.stop.Stop.{Stop}
use Rattle.packet_base.specs.declared.stop.Stop.TheVariants as stops
use Rattle.packet.specs.declared.packet.Packet.{Packet}
use Rattle.packet_base.specs.declared.refusal_code.RefusalCode.{RefusalCode}
use Rattle.packet.specs.Verdict.{verdict, MayNeedMemory}
use Rattle.broker_spec.specs.Sized.{IsSized}
use Rattle.world_base.specs.declared.node_connections.connection.Connection.{Connection}
use Rattle.world_base.specs.declared.node_connections.front.Front.{Front}
use Rattle.world_base.specs.declared.node_connections.front.Front.TheVariants as fronts
use Rattle.world_base.specs.node_connections.Connections.{awaits_first_packet}
use Rattle.world_base.specs.node_connections.ConnectionChanges.{left_with, closed_connection}
use Rattle.world_base.specs.node_connections.Refusals.{connect_refused}

-- a fault of the bytes
abbrev pub IsFaultOfBytes : Result (Packet × List ℕ) Stop → Type 0
IsFaultOfBytes (Err (stops.Malformed kind)) = Unit {0}
IsFaultOfBytes _ = ⊥

-- a CONNECT that is refused with a code is at the front of a connection's bytes
abbrev pub FrontIsRefused : Connection → Type 0
FrontIsRefused connection =
    (code : RefusalCode) × (verdict connection.unread ≡ Err (stops.Refused code))

-- no packet is at the front: the bytes have a fault, or a CONNECT that is not the first is refused
abbrev pub HasNoPacket : Connection → Type 0
HasNoPacket connection =
    IsFaultOfBytes (verdict connection.unread)
    ⊎ ((awaits_first_packet connection.stage ≡ false) × FrontIsRefused connection)

-- memory may run out for what is at the front: for reading it, or for the answer to a first CONNECT
-- that is refused with a code
abbrev pub FrontNeedsMemory : Connection → Type 0
FrontNeedsMemory connection =
    MayNeedMemory connection.unread
    ⊎ ((awaits_first_packet connection.stage ≡ true) × FrontIsRefused connection)

-- what is at the front of the bytes of a connection, and what is left of them
abbrev pub ReadsFront : List ℕ → Front → List ℕ → Type 0
ReadsFront bytes fronts.More left = (verdict bytes ≡ Err stops.More) × (left ≡ bytes)
ReadsFront bytes (fronts.Packet packet) left = (verdict bytes ≡ Ok (packet, left)) × IsSized packet
ReadsFront bytes (fronts.Refused code) left = verdict bytes ≡ Err (stops.Refused code)
ReadsFront bytes fronts.Fault left = IsFaultOfBytes (verdict bytes)
ReadsFront bytes fronts.OutOfMemory left = MayNeedMemory bytes × (left ≡ bytes)

-- what reading the next packet at this time does to a connection
abbrev pub TakesFront : ℕ → Connection → Front → Connection → Type 0
TakesFront now old fronts.More new = (verdict old.unread ≡ Err stops.More) × (new ≡ old)
TakesFront now old (fronts.Packet packet) new =
    (rest : List ℕ) × (verdict old.unread ≡ Ok (packet, rest)) × IsSized packet
    × (new ≡ left_with now rest old)
TakesFront now old (fronts.Refused code) new =
    (verdict old.unread ≡ Err (stops.Refused code))
    × (new ≡ (if awaits_first_packet old.stage then connect_refused code old
    else closed_connection old))
TakesFront now old fronts.Fault new =
    IsFaultOfBytes (verdict old.unread) × (new ≡ closed_connection old)
TakesFront now old fronts.OutOfMemory new = FrontNeedsMemory old × (new ≡ closed_connection old)
