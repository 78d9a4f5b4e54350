-- How the next packet of a connection is read, if memory may run out.
use Rattle.std.specs.Prelude.{◌≡◌, ◌⊎◌, ℕ, true, false, List, Option, Some, None, Ok, Err}
use Rattle.packet_base.specs.declared.stop.Stop.TheVariants as stops
use Rattle.packet_base.specs.declared.refusal_code.RefusalCode.{RefusalCode}
use Rattle.packet.specs.declared.packet.Packet.{Packet}
use Rattle.packet.specs.declared.packet.Packet.TheVariants as packets
use Rattle.packet.specs.declared.connect.Connect.{Connect}
use Rattle.packet.specs.Verdict.{verdict}
use Rattle.broker_spec.specs.Connection.{ConnectionName}
use Rattle.broker_spec.specs.declared.command.Command.{Command}
use Rattle.broker_spec.specs.declared.command.Command.TheVariants as commands
use Rattle.world_base.specs.declared.node_connections.port.Port.{Port}
use Rattle.world_base.specs.declared.node_connections.connection.Connection.{Connection}
use Rattle.world_base.specs.node_connections.Connections.{awaits_first_packet}
use Rattle.world_base.specs.node_connections.ConnectionChanges.{noted_proposed, closed_connection, failing, left_with}
use Rattle.world_base.specs.node_connections.Fronts.{FrontNeedsMemory, HasNoPacket}
use Rattle.world_base.specs.node_core.Core.{CoreState}
use Rattle.world_base.specs.node_core.Lossy.{Account, TakesCommand, Then, without_effects}
use Rattle.world_base.specs.node_core.LossyEndings.{EndsConnection}
use Rattle.world_base.specs.node_core.LossyProposals.{Declines}
use Rattle.world_base.specs.node_core.PacketInput.{changes, open_at}
use Rattle.world_base.specs.node_connections.Refusals.{connect_refused}

-- a command is taken, or otherwise this is done
abbrev pub TakesOr : Command → (CoreState → Account → Type 0) → CoreState → Account → Type 0
TakesOr command Otherwise core account =
    TakesCommand command core account ⊎ Then Declines Otherwise core account

-- a connection is closed
abbrev pub ClosesConnection : Port → CoreState → Account → Type 0
ClosesConnection port core account = account ≡ without_effects (changes port closed_connection core)

-- a connection is closed, or closed as lost, and the loss is still to be reported to the broker
abbrev pub Shuts : Port → CoreState → Account → Type 0
Shuts port core account =
    ClosesConnection port core account ⊎ (account ≡ without_effects (changes port failing core))

-- a CONNECT is proposed; if it is not taken, the connection is closed
abbrev pub ProposesConnect : Port → ConnectionName → Connect → CoreState → Account → Type 0
ProposesConnect port name connect core account =
    TakesOr (commands.Connect name connect.client connect.clean)
    (ClosesConnection port) core account

-- the first packet of a connection must be a CONNECT
abbrev pub TakesFirstPacket : Port → ConnectionName → Packet → CoreState → Account → Type 0
TakesFirstPacket port name (packets.Connect connect) core account =
    ProposesConnect port name connect
    (changes port (noted_proposed connect.keep_alive) core) account
TakesFirstPacket port name _ core account = ClosesConnection port core account

-- a later packet is proposed; if it is not taken, the connection ends
abbrev pub ProposesPacket : Port → ConnectionName → Packet → CoreState → Account → Type 0
ProposesPacket port name packet core account =
    TakesOr (commands.Packet name packet) (Shuts port) core account

-- what is at the front of its bytes may end a connection: it is no packet, or may need memory
abbrev pub MayEnd : Option Connection → Type 0
MayEnd None = Unit {0}
MayEnd (Some connection) = HasNoPacket connection ⊎ FrontNeedsMemory connection

-- The packet at the front of a port's bytes is removed and proposed, or there is less than a
-- packet. Or the connection ends, because there is no packet, or because there is no memory to read
-- or to refuse it.
pub data ReadsNext (now : ℕ) (port : Port) (core : CoreState) (account : Account) : Type 0 where
  -- less than a packet is there
  waits : (connection : Connection) → open_at port core ≡ Some connection →
      verdict connection.unread ≡ Err stops.More → account ≡ without_effects core →
      ReadsNext now port core account
  -- the first packet of the connection is there
  first : (connection : Connection) (packet : Packet) (rest : List ℕ) →
      open_at port core ≡ Some connection → awaits_first_packet connection.stage ≡ true →
      verdict connection.unread ≡ Ok (packet, rest) →
      TakesFirstPacket port connection.name packet
      (changes port (left_with now rest) core) account →
      ReadsNext now port core account
  -- a later packet is there
  later : (connection : Connection) (packet : Packet) (rest : List ℕ) →
      open_at port core ≡ Some connection → awaits_first_packet connection.stage ≡ false →
      verdict connection.unread ≡ Ok (packet, rest) →
      ProposesPacket port connection.name packet (changes port (left_with now rest) core) account →
      ReadsNext now port core account
  -- its CONNECT is refused with a code
  refuses : (connection : Connection) (code : RefusalCode) → open_at port core ≡ Some connection →
      awaits_first_packet connection.stage ≡ true →
      verdict connection.unread ≡ Err (stops.Refused code) →
      account ≡ without_effects (changes port (connect_refused code) core) →
      ReadsNext now port core account
  -- the connection ends, if one is open
  ends : MayEnd (open_at port core) → EndsConnection port core account →
      ReadsNext now port core account
