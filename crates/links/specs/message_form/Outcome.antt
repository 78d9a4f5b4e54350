-- What a call that reads a message returns.
use Rattle.std.specs.Prelude.{◌≡◌, ℕ, List, Result, Ok, Err}
use Rattle.topics.specs.declared.malformed.MalformedKind.{MalformedKind}
use Rattle.topics.specs.declared.malformed.MalformedKind.TheVariants as kinds
use Rattle.packet_base.specs.declared.stop.Stop.{Stop}
use Rattle.packet_base.specs.declared.stop.Stop.TheVariants as stops
use Rattle.ballot_base.specs.declared.message.Message.{Message}
use Rattle.broker_spec.specs.declared.command.Command.{Command}
use Rattle.links.specs.message_form.Messages.{written, IsMessage}
use Rattle.links.specs.message_form.MessageReading.{whole_message}

-- the fault that a reading stops with; a packet that is cut short is `Shape`, and a CONNECT that a
-- broker answers by a CONNACK is `Protocol`
abbrev pub fault_of : Stop → MalformedKind
fault_of stops.More = kinds.Shape
fault_of (stops.Malformed kind) = kind
fault_of (stops.Refused code) = kinds.Protocol

-- a reading with the kind of its fault
abbrev pub faulted : {A : Type 0} → Result A Stop → Result A MalformedKind
faulted (Ok value) = Ok value
faulted (Err stop) = Err (fault_of stop)

-- the message of these bytes, or their first fault
abbrev pub message_of : List ℕ → Result (Message Command) MalformedKind
message_of bytes = faulted (whole_message bytes)

-- the result is what the bytes say, except that memory may run out
abbrev pub Yields : {A : Type 0} → Result A MalformedKind → Result A MalformedKind → Type 0
Yields (Ok value) read = read ≡ Ok value
Yields (Err kinds.Memory) read = Unit {0}
Yields (Err kind) read = read ≡ Err kind

-- a message that was read from these bytes is in its range, and is written to them
abbrev pub IsReadFrom : List ℕ → Message Command → Type 0
IsReadFrom bytes message = IsMessage message × (bytes ≡ written message)

-- the result is this message, except that memory may run out
abbrev pub IsOf : Message Command → Result (Message Command) MalformedKind → Type 0
IsOf message (Ok read) = read ≡ message
IsOf message (Err kind) = kind ≡ kinds.Memory

-- what is written is read
abbrev pub ReadsWhatIsWritten : List ℕ → Result (Message Command) MalformedKind → Type 0
ReadsWhatIsWritten bytes result =
    (message : Message Command) → IsMessage message → bytes ≡ written message → IsOf message result
