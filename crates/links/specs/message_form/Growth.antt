-- When reading a message needs memory: nothing has a fault up to where it is first taken. That is
-- after all parts of a NewBallot, and of a Connect and an Expel; where `decode` says for a packet;
-- and in a log after its first command, or in it. A message of numbers needs none, nor do a list
-- without members, and a log without commands and snapshot.
use Rattle.std.specs.Prelude.{◌≡◌, ℕ, ◌==◌, ◌||◌, nat_le, nat_lt, length, if◌then◌else◌, Bool, true, false, is_ok}
use Rattle.std.specs.Prelude.{List, Result, Ok, Err}
use Rattle.packet_base.specs.declared.stop.Stop.{Stop}
use Rattle.packet_base.specs.Readers.{◌>>=◌, ◌>>◌, byte_at, front_at}
use Rattle.session_base.specs.Counted.{check_form}
use Rattle.session_base.specs.Form.{long_number_at}
use Rattle.links.specs.message_form.Numbers.{wide_number_at}
use Rattle.links.specs.message_form.CommandReading.{command_asks}
use Rattle.links.specs.message_form.LogReading.{members_at, most_after, sized_command_at}
use Rattle.links.specs.message_form.MessageReading.{pair_at}

-- ---- logs

-- whether memory is needed, where a fault says that it is not
abbrev pub is_asked : Result Bool Stop → Bool
is_asked (Ok asked) = asked
is_asked (Err stop) = false

-- for a command with its length before it, as for the command
unfoldable pub sized_asks : List ℕ → Result Bool Stop
sized_asks bytes = do
  len ← long_number_at bytes
  front ← front_at len.0 len.1
  command_asks front.0

-- the first command has no fault, or none up to where it needs memory
abbrev pub first_asks : List ℕ → Bool
first_asks bytes = is_ok (sized_command_at bytes) || is_asked (sized_asks bytes)

-- for commands after their count; where there is none, for a snapshot that is copied
unfoldable pub commands_ask : Bool → ℕ → List ℕ → Result Bool Stop
commands_ask copies most bytes = do
  count ← wide_number_at bytes
  check_form (nat_le count.0 most)
  Ok (if count.0 == 0 then copies else first_asks count.1)

-- there is a byte
abbrev pub has_some : List ℕ → Bool
has_some bytes = nat_lt 0 (length bytes)

-- for a log
unfoldable pub log_asks : List ℕ → Result Bool Stop
log_asks bytes = do
  base ← wide_number_at bytes
  len ← wide_number_at base.1
  snapshot ← front_at len.0 len.1
  commands_ask (has_some snapshot.0) (most_after base.0) snapshot.1

-- ---- messages

-- for a NewBallot, once all of it is there, if a list of it has a member
unfoldable pub new_ballot_asks : List ℕ → Result Bool Stop
new_ballot_asks bytes = do
  ballot ← wide_number_at bytes
  members ← members_at ballot.1
  previous ← wide_number_at members.1
  previous_members ← members_at previous.1
  Ok (has_some members.0 || has_some previous_members.0)

-- for a State and an Install, once the ballot is there
unfoldable pub ballot_log_asks : List ℕ → Result Bool Stop
ballot_log_asks bytes = do
  ballot ← wide_number_at bytes
  log_asks ballot.1

-- for an Append, once its numbers are there
unfoldable pub append_asks : List ℕ → Result Bool Stop
append_asks bytes = do
  pair ← pair_at bytes
  command_asks pair.1

-- for the body of this kind
abbrev pub body_asks : ℕ → List ℕ → Result Bool Stop
body_asks kind bytes =
    if kind == 1 then new_ballot_asks bytes else
    if kind == 3 then ballot_log_asks bytes else
    if kind == 4 then ballot_log_asks bytes else
    if kind == 9 then append_asks bytes else Ok false

-- whether memory is needed for the message at the front
unfoldable pub message_asks : List ℕ → Result Bool Stop
message_asks bytes = do
  kind ← byte_at bytes
  from ← byte_at kind.1
  body_asks kind.0 from.1

-- memory may run out for these bytes
abbrev pub MayNeedMemory : List ℕ → Type 0
MayNeedMemory bytes = message_asks bytes ≡ Ok true
