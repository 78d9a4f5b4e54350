-- A message that was written is read as it was, whatever follows it.
use Rattle.std.proofs.Common.{◌≡◌, ℕ, ◌≤◌, ◌<◌, ◌^◌, List, [], ◌∷◌, ◌++◌, length, Ok, refl, sym, ap, ◌∙◌, arith, append_assoc, append-nil}
use Rattle.packet_base.proofs.FieldsAgain.{front_again}
use Rattle.packet.proofs.After.{ok_is}
use Rattle.session_base.specs.Bytes.{long_number}
use Rattle.session_base.specs.Counted.{counted_bytes}
use Rattle.session_base.proofs.Counted.{AllFollow, IsReadAgain, counted_again}
use Rattle.session_base.proofs.Fields.{long_again}
use Rattle.session_base.proofs.FormAgain.{each}
use Rattle.ballot_base.specs.Logs.{Log}
use Rattle.ballot_base.specs.declared.message.Body.{Body}
use Rattle.ballot_base.specs.declared.message.Body.TheVariants as bodies
use Rattle.ballot_base.specs.declared.message.Message.{Message}
use Rattle.broker_spec.specs.declared.command.Command.{Command}
use Rattle.links.specs.message_form.Numbers.{wide_number, wide_number_at, IsWide}
use Rattle.links.specs.message_form.Commands.{command_bytes, IsCommand}
use Rattle.links.specs.message_form.CommandReading.{command_at}
use Rattle.links.specs.message_form.Messages.{members_bytes, sized_command_bytes, log_bytes, kind_of, body_bytes, written, IsLog, IsBody, IsMessage}
use Rattle.links.specs.message_form.LogReading.{anything, members_at, whole_command, sized_command_at, most_after, log_at}
use Rattle.links.specs.message_form.MessageReading.{pair_at, new_ballot_at, ballot_log_at, append_at, body_of_kind, message_at, whole_message}
use Rattle.links.specs.message_form.Theorems.{WrittenIsRead, NoneBeginsAnother}
use Rattle.links.proofs.of_message_form.CommandsAgain.{wide_again, command_again}
use Rattle.links.proofs.of_message_form.Lengths.{command_short}

members_again : (members rest : List ℕ) → members_at (members_bytes members ++ rest) ≡ Ok (members, rest)
unfolding members_at
members_again members rest = front_again members rest (length members) refl

-- ---- logs

whole_again : (command : Command) → IsCommand command → whole_command (command_bytes command) ≡ Ok command
unfolding whole_command
whole_again command h =
    let read : command_at (command_bytes command) ≡ Ok (command, []) = ap (λ (z : List ℕ). command_at z) (sym (append-nil (command_bytes command))) ∙ command_again command [] h in rw read refl

sized_again : (command : Command) → IsCommand command → IsReadAgain sized_command_bytes sized_command_at command
unfolding sized_command_at
sized_again command h rest =
    let b = command_bytes command in
    ap (λ (z : List ℕ). sized_command_at z) (append_assoc (long_number (length b)) b rest)
    ∙ rw (long_again (length b) (b ++ rest) (command_short command h), front_again b rest (length b) refl, whole_again command h) refl

all_follow : (front commands : List Command) → AllFollow anything front commands
all_follow front [] = tt
all_follow front (c ∷ cs) = (refl, all_follow (front ++ c ∷ []) cs)

-- four parts and the rest
regrouped : (a b c d rest : List ℕ) → (a ++ (b ++ (c ++ d))) ++ rest ≡ a ++ (b ++ (c ++ (d ++ rest)))
regrouped a b c d rest =
    append_assoc a (b ++ (c ++ d)) rest ∙ ap (λ (z : List ℕ). a ++ z) (append_assoc b (c ++ d) rest ∙ ap (λ (z : List ℕ). b ++ z) (append_assoc c d rest))

log_again : (log : Log Command) (rest : List ℕ) → IsLog log → log_at (log_bytes log ++ rest) ≡ Ok (log, rest)
unfolding log_at
log_again log rest h =
    let listed = counted_bytes wide_number sized_command_bytes log.rest in
    let len = wide_number (length log.snapshot) in
    let places = h.places_fit in
    let base : log.base < 2 ^ 64 = omega (arith, places) in
    let few : length log.rest ≤ most_after log.base = omega (arith, places) in
    ap (λ (z : List ℕ). log_at z) (regrouped (wide_number log.base) len log.snapshot listed rest)
    ∙ rw (
      wide_again log.base (len ++ (log.snapshot ++ (listed ++ rest))) base,
      wide_again (length log.snapshot) (log.snapshot ++ (listed ++ rest)) h.snapshot_fits,
      front_again log.snapshot (listed ++ rest) (length log.snapshot) refl,
      counted_again wide_number wide_number_at anything sized_command_bytes sized_command_at (most_after log.base) log.rest rest
          (λ n small rest. wide_again n rest (omega (arith, small))) few
          (each IsCommand (IsReadAgain sized_command_bytes sized_command_at) sized_again log.rest h.commands) (all_follow [] log.rest),
    ) refl

-- ---- bodies

pair_again : (a b : ℕ) (rest : List ℕ) → IsWide a → IsWide b → pair_at ((wide_number a ++ wide_number b) ++ rest) ≡ Ok ((a, b), rest)
unfolding pair_at
pair_again a b rest small_a small_b =
    ap (λ (z : List ℕ). pair_at z) (append_assoc (wide_number a) (wide_number b) rest)
    ∙ rw (wide_again a (wide_number b ++ rest) small_a, wide_again b rest small_b) refl

ballot_log_again : (ballot : ℕ) (log : Log Command) (rest : List ℕ) → IsWide ballot → IsLog log →
    ballot_log_at ((wide_number ballot ++ log_bytes log) ++ rest) ≡ Ok ((ballot, log), rest)
unfolding ballot_log_at
ballot_log_again ballot log rest small h =
    ap (λ (z : List ℕ). ballot_log_at z) (append_assoc (wide_number ballot) (log_bytes log) rest)
    ∙ rw (wide_again ballot (log_bytes log ++ rest) small, log_again log rest h) refl

body_again : (body : Body Command) (rest : List ℕ) → IsBody body → body_of_kind (kind_of body) (body_bytes body ++ rest) ≡ Ok (body, rest)
unfolding new_ballot_at append_at
body_again (bodies.NewBallot ballot members previous previous_members) rest h =
    ap (λ (z : List ℕ). new_ballot_at z) (regrouped (wide_number ballot) (members_bytes members) (wide_number previous) (members_bytes previous_members) rest)
    ∙ rw (
      wide_again ballot (members_bytes members ++ (wide_number previous ++ (members_bytes previous_members ++ rest))) h.0,
      members_again members (wide_number previous ++ (members_bytes previous_members ++ rest)),
      wide_again previous (members_bytes previous_members ++ rest) h.2,
      members_again previous_members rest,
    ) refl
body_again (bodies.Join ballot previous) rest h = rw (pair_again ballot previous rest h.0 h.1) refl
body_again (bodies.State ballot log) rest h = rw (ballot_log_again ballot log rest h.0 h.1) refl
body_again (bodies.Install ballot log) rest h = rw (ballot_log_again ballot log rest h.0 h.1) refl
body_again (bodies.Installed ballot held) rest h = rw (pair_again ballot held rest h.0 h.1) refl
body_again (bodies.Activate ballot) rest h = rw (wide_again ballot rest h) refl
body_again (bodies.Activated ballot) rest h = rw (wide_again ballot rest h) refl
body_again (bodies.Superseded ballot) rest h = rw (wide_again ballot rest h) refl
body_again (bodies.Append ballot place command) rest h =
    ap (λ (z : List ℕ). append_at z)
    (append_assoc (wide_number ballot) (wide_number place ++ command_bytes command) rest
    ∙ ap (λ (z : List ℕ). wide_number ballot ++ z) (append_assoc (wide_number place) (command_bytes command) rest)
    ∙ sym (append_assoc (wide_number ballot) (wide_number place) (command_bytes command ++ rest)))
    ∙ rw (pair_again ballot place (command_bytes command ++ rest) h.0 h.1, command_again command rest h.2) refl
body_again (bodies.Held ballot held) rest h = rw (pair_again ballot held rest h.0 h.1) refl
body_again (bodies.Commit ballot held) rest h = rw (pair_again ballot held rest h.0 h.1) refl

pub message_again : (message : Message Command) (rest : List ℕ) → IsMessage message → message_at (written message ++ rest) ≡ Ok (message, rest)
unfolding message_at
message_again message rest h = rw (body_again message.body rest h.1) refl

pub written_is_read : WrittenIsRead
unfolding whole_message
written_is_read message h =
    let read : message_at (written message) ≡ Ok (message, []) = ap (λ (z : List ℕ). message_at z) (sym (append-nil (written message))) ∙ message_again message [] h in rw read refl

pub none_begins_another : NoneBeginsAnother
none_begins_another message other rest other_rest h k e =
    let same : (message, rest) ≡ (other, other_rest) =
    ok_is (message, rest) (other, other_rest) (sym (message_again message rest h) ∙ ap (λ (z : List ℕ). message_at z) e ∙ message_again other other_rest k) in
    (ap (λ (z : Message Command × List ℕ). z.0) same, ap (λ (z : Message Command × List ℕ). z.1) same)
