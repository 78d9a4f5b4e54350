-- Reading a command from its bytes, from left to right, up to the first fault.
use Rattle.std.specs.Prelude.{ℕ, ◌==◌, if◌then◌else◌, Bool, true, false, List, Result, Ok}
use Rattle.topics.specs.declared.malformed.MalformedKind.TheVariants as kinds
use Rattle.packet_base.specs.declared.stop.Stop.{Stop}
use Rattle.packet_base.specs.declared.stop.Stop.TheVariants as stops
use Rattle.packet_base.specs.Readers.{◌>>=◌, ◌>>◌, check, malformed, byte_at, text_at}
use Rattle.packet_base.specs.ClientId.{has_client_length}
use Rattle.packet.specs.Verdict.{verdict, asks_memory}
use Rattle.session_base.specs.Counted.{check_form}
use Rattle.session_base.specs.Form.{flag_at}
use Rattle.broker_spec.specs.Connection.{ConnectionName, is_connection_name}
use Rattle.broker_spec.specs.declared.command.Command.{Command}
use Rattle.broker_spec.specs.declared.command.Command.TheVariants as commands
use Rattle.links.specs.message_form.Numbers.{wide_number_at}

-- the name of a connection, its ballot and its count in their ranges
unfoldable pub name_at : List ℕ → Result (ConnectionName × List ℕ) Stop
name_at bytes = do
  ballot ← wide_number_at bytes
  count ← wide_number_at ballot.1
  check_form (is_connection_name (record { ballot = ballot.0; count = count.0 }))
  Ok (record { ballot = ballot.0; count = count.0 }, count.1)

-- a Client Identifier of 1 to 64 bytes
unfoldable pub client_at : List ℕ → Result (List ℕ × List ℕ) Stop
client_at bytes = do
  client ← text_at bytes
  check (has_client_length client.0) (stops.Malformed kinds.Identifier)
  Ok client

-- what follows the kind of a Connect
unfoldable pub connect_at : List ℕ → Result (Command × List ℕ) Stop
connect_at bytes = do
  name ← name_at bytes
  client ← client_at name.1
  clean ← flag_at client.1
  Ok (commands.Connect name.0 client.0 clean.0, clean.1)

-- what follows the kind of a Packet; the packet has the faults that it has in a stream
unfoldable pub packet_at : List ℕ → Result (Command × List ℕ) Stop
packet_at bytes = do
  name ← name_at bytes
  packet ← verdict name.1
  Ok (commands.Packet name.0 packet.0, packet.1)

-- what follows the kind of a Lost
unfoldable pub lost_at : List ℕ → Result (Command × List ℕ) Stop
lost_at bytes = do
  name ← name_at bytes
  Ok (commands.Lost name.0, name.1)

-- what follows the kind of a Start
unfoldable pub start_at : List ℕ → Result (Command × List ℕ) Stop
start_at bytes = do
  ballot ← wide_number_at bytes
  Ok (commands.Start ballot.0, ballot.1)

-- what follows the kind of an Expel
unfoldable pub expel_at : List ℕ → Result (Command × List ℕ) Stop
expel_at bytes = do
  client ← client_at bytes
  Ok (commands.Expel client.0, client.1)

-- the command of this kind; there are five
abbrev pub command_of_kind : ℕ → List ℕ → Result (Command × List ℕ) Stop
command_of_kind kind bytes =
    if kind == 1 then connect_at bytes else
    if kind == 2 then packet_at bytes else
    if kind == 3 then lost_at bytes else
    if kind == 4 then start_at bytes else
    if kind == 5 then expel_at bytes else malformed kinds.Shape

-- a command, and the bytes after it
unfoldable pub command_at : List ℕ → Result (Command × List ℕ) Stop
command_at bytes = do
  kind ← byte_at bytes
  command_of_kind kind.0 kind.1

-- ---- when memory is needed

-- memory is needed if this reading has no fault
abbrev pub if_faultless : {A : Type 0} → Result A Stop → Result Bool Stop
if_faultless read = read >>= (λ value. Ok true)

-- for a packet it is needed as `decode` says, once the name has no fault
unfoldable pub packet_asks : List ℕ → Result Bool Stop
packet_asks bytes = do
  name ← name_at bytes
  asks_memory name.1

-- a Connect and an Expel have a text; a Lost and a Start need no memory
abbrev pub kind_asks : ℕ → List ℕ → Result Bool Stop
kind_asks kind bytes =
    if kind == 1 then if_faultless (connect_at bytes) else
    if kind == 2 then packet_asks bytes else
    if kind == 5 then if_faultless (expel_at bytes) else Ok false

-- whether memory is needed for the command at the front
unfoldable pub command_asks : List ℕ → Result Bool Stop
command_asks bytes = do
  kind ← byte_at bytes
  kind_asks kind.0 kind.1
