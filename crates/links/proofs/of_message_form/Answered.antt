-- What the answer of a reading says of the messages that are written.
use Rattle.std.proofs.Common.{◌≡◌, ℕ, List, Result, Ok, Err, refl, sym, ap, ◌∙◌}
use Rattle.std.specs.Prelude.{IfOk}
use Rattle.std.proofs.lemmas.Result.{IfOk-at_ok}
use Rattle.topics.specs.declared.malformed.MalformedKind.{MalformedKind}
use Rattle.topics.specs.declared.malformed.MalformedKind.TheVariants as kinds
use Rattle.packet_base.specs.Readers.{AreBytes}
use Rattle.ballot_base.specs.declared.message.Message.{Message}
use Rattle.broker_spec.specs.declared.command.Command.{Command}
use Rattle.links.specs.message_form.Outcome.{message_of, Yields, IsReadFrom, ReadsWhatIsWritten}
use Rattle.links.proofs.of_message_form.MessagesAgain.{written_is_read}
use Rattle.links.proofs.of_message_form.MessagesFound.{read_is_written}

pub is_found : (bytes : List ℕ) (result : Result (Message Command) MalformedKind) → AreBytes bytes → Yields result (message_of bytes) → IfOk result (IsReadFrom bytes)
is_found bytes (Ok message) fits e = IfOk-at_ok (IsReadFrom bytes) e (read_is_written bytes fits)
is_found bytes (Err kind) fits e = tt

abbrev done : Message Command → Result (Message Command) MalformedKind
done message = Ok message

same : (message other : Message Command) → done message ≡ done other → message ≡ other
same message other e = cc

memory_alone : (kind : MalformedKind) (read : Result (Message Command) MalformedKind) (message : Message Command) → read ≡ Ok message → Yields {A = Message Command} (Err kind) read → kind ≡ kinds.Memory
memory_alone kinds.Memory read message e h = refl
memory_alone kind read message e h = absurd cc

pub is_read : (bytes : List ℕ) (result : Result (Message Command) MalformedKind) → Yields result (message_of bytes) → ReadsWhatIsWritten bytes result
is_read bytes (Ok read) given message h parts = same read message (sym given ∙ ap (λ (z : List ℕ). message_of z) parts ∙ written_is_read message h)
is_read bytes (Err kind) given message h parts = memory_alone kind (message_of bytes) message (ap (λ (z : List ℕ). message_of z) parts ∙ written_is_read message h) given
