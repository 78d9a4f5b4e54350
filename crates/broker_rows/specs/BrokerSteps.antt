-- Steps of a broker: what comes on connections, and what it sends then (MQTT 3, 4).
use Rattle.std.specs.Prelude.{◌≡◌, ℕ, Bool, true, false, List, [], ◌∷◌, ◌++◌, map, codes, Some, None, Ok}
use Rattle.std.specs.Fmt.{decimal}
use Rattle.rows.specs.Fields.{Text, number_of}
use Rattle.rows.specs.Playing.{Answers, Agrees}
use Rattle.rows.specs.Answers.{counted, word}
use Rattle.rows.specs.declared.line.Line.{Line}
use Rattle.packet.specs.declared.packet.Packet.{Packet}
use Rattle.packet.specs.Verdict.{verdict}
use Rattle.broker_spec.specs.Connection.{ConnectionName}
use Rattle.broker_spec.specs.declared.command.Command.{Command}
use Rattle.broker_spec.specs.declared.command.Command.TheVariants as commands
use Rattle.broker_spec.specs.declared.command.Output.{Output}
use Rattle.broker_spec.specs.declared.command.Output.TheVariants as outputs
use Rattle.broker_base.specs.State.{State}
use Rattle.broker_base.specs.form.BrokerRules.{broker_rules}
use Rattle.broker_rows.specs.Values.{packet_fields}
use Rattle.broker_rows.specs.declared.broker_steps.Broker.{Broker}

-- the connection of a number, in ballot 1
abbrev pub connection_of : ℕ → ConnectionName
connection_of number = record { ballot = 1; count = number }

-- a connection is the one whose number these digits write
abbrev pub IsNamed : Text → ConnectionName → Type 0
IsNamed digits connection =
    (number : ℕ) × (number_of digits ≡ Some number) × (connection ≡ connection_of number)

-- bytes begin with this packet
abbrev pub IsRead : List ℕ → Packet → Type 0
IsRead bytes packet = (rest : List ℕ) × (verdict bytes ≡ Ok (packet, rest))

-- the digit of a flag
abbrev pub flag_text : Bool → Text
flag_text true = codes "1"
flag_text false = codes "0"

-- the command of a step
pub data CommandOf (step : List Text) (command : Command) : Type 0 where
  -- `connect 1 "a" 0`: a client opens a connection; the flag is CleanSession
  connect : (digits client : Text) (number : ℕ) (clean : Bool)
      → step ≡ codes "connect" ∷ digits ∷ client ∷ flag_text clean ∷ []
      → number_of digits ≡ Some number
      → command ≡ commands.Connect (connection_of number) client clean → CommandOf step command
  -- `receive 1 x"C0 00"`: a packet comes on a connection
  receive : (digits bytes : Text) (number : ℕ) (packet : Packet) (rest : List ℕ)
      → step ≡ codes "receive" ∷ digits ∷ bytes ∷ [] → number_of digits ≡ Some number
      → verdict bytes ≡ Ok (packet, rest)
      → command ≡ commands.Packet (connection_of number) packet → CommandOf step command
  -- `lost 1`: a connection is lost
  lost : (digits : Text) (number : ℕ) → step ≡ codes "lost" ∷ digits ∷ []
      → number_of digits ≡ Some number → command ≡ commands.Lost (connection_of number)
      → CommandOf step command
  -- `restart 2`: a ballot begins, and all connections of earlier ones are over
  restart : (digits : Text) (ballot : ℕ) → step ≡ codes "restart" ∷ digits ∷ []
      → number_of digits ≡ Some ballot → command ≡ commands.Start ballot → CommandOf step command
  -- `expel "a"`: an administrator ends the session of a client
  expel : (client : Text) → step ≡ codes "expel" ∷ client ∷ []
      → command ≡ commands.Expel client → CommandOf step command

-- `send 1 x"D0 00"`, or `close 1`
abbrev pub output_fields : Output → List Text
output_fields (outputs.Send connection packet) =
    counted (codes "send") connection.count ++ packet_fields packet
output_fields (outputs.Close connection) = counted (codes "close") connection.count

-- a step, its answers, and the broker before and after it
pub data BrokerStep (old : State) (step : List Text) (answers : Answers) (new : State) :
    Type 0 where
  -- a command
  command : (command : Command) → CommandOf step command
      → answers ≡ map output_fields (broker_rules.gives old command)
      → new ≡ broker_rules.after old command → BrokerStep old step answers new
  -- `freeze`: the bytes of the broker
  freeze : step ≡ codes "freeze" ∷ [] → answers ≡ word (broker_rules.frozen old) ∷ []
      → new ≡ old → BrokerStep old step answers new
  -- `thaw x"02 ..."`: a broker is read from its frozen bytes
  thaw : (bytes : List ℕ) → step ≡ codes "thaw" ∷ bytes ∷ []
      → broker_rules.thawed bytes ≡ Some new → answers ≡ word (codes "thawed") ∷ []
      → BrokerStep old step answers new
  -- no broker was frozen to these
  no_thaw : (bytes : List ℕ) → step ≡ codes "thaw" ∷ bytes ∷ []
      → broker_rules.thawed bytes ≡ None → answers ≡ word (codes "refused") ∷ [] → new ≡ old
      → BrokerStep old step answers new

-- a step of a row
abbrev pub BrokerDoes : Broker → List Text → Answers → Broker → Type 0
BrokerDoes old step answers new = BrokerStep old.machine step answers new.machine

-- the steps agree with a broker that begins
abbrev pub BrokerAgrees : List Line → Type 0
BrokerAgrees steps = Agrees BrokerDoes (record { machine = broker_rules.opening }) steps
