-- Each message has one spelling, which is read as that message, and begins no other.
use Rattle.std.specs.Prelude.{◌≡◌, ℕ, ◌<◌, ◌^◌, Bool, true, false, List, ◌++◌, length, Ok, IfOk}
use Rattle.packet_base.specs.Readers.{AreBytes}
use Rattle.ballot_base.specs.declared.message.Body.{Body}
use Rattle.ballot_base.specs.declared.message.Body.TheVariants as bodies
use Rattle.ballot_base.specs.declared.message.Message.{Message}
use Rattle.broker_spec.specs.declared.command.Command.{Command}
use Rattle.links.specs.message_form.Messages.{written, IsMessage}
use Rattle.links.specs.message_form.Outcome.{message_of}

-- what is written is read, and nothing is left
abbrev pub WrittenIsRead : Type 0
WrittenIsRead =
    (message : Message Command) → IsMessage message → message_of (written message) ≡ Ok message

-- a message that was read is in its range, and is written to the bytes that were read
abbrev pub ReadIsWritten : Type 0
ReadIsWritten =
    (bytes : List ℕ) → AreBytes bytes →
    IfOk (message_of bytes) (λ message. IsMessage message × (bytes ≡ written message))

-- if the bytes of two messages are in front of the same bytes, the messages are the same
abbrev pub NoneBeginsAnother : Type 0
NoneBeginsAnother =
    (message other : Message Command) (rest other_rest : List ℕ) →
    IsMessage message → IsMessage other →
    written message ++ rest ≡ written other ++ other_rest →
    (message ≡ other) × (rest ≡ other_rest)

-- whether a message carries a log, which may have any length
abbrev pub has_log : Body Command → Bool
has_log (bodies.State ballot log) = true
has_log (bodies.Install ballot log) = true
has_log _ = false

-- each other message has less than 2 MiB
abbrev pub OthersAreShort : Type 0
OthersAreShort =
    (message : Message Command) → IsMessage message → has_log message.body ≡ false →
    length (written message) < 2 ^ 21
