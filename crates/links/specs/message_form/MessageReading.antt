-- Reading a message from its bytes, from left to right, up to the first fault.
use Rattle.std.specs.Prelude.{ℕ, ◌==◌, if◌then◌else◌, List, Result, Ok}
use Rattle.topics.specs.declared.malformed.MalformedKind.TheVariants as kinds
use Rattle.packet_base.specs.declared.stop.Stop.{Stop}
use Rattle.packet_base.specs.Readers.{◌>>=◌, ◌>>◌, malformed, byte_at, ended}
use Rattle.ballot_base.specs.Logs.{Log}
use Rattle.ballot_base.specs.declared.message.Body.{Body}
use Rattle.ballot_base.specs.declared.message.Body.TheVariants as bodies
use Rattle.ballot_base.specs.declared.message.Message.{Message}
use Rattle.broker_spec.specs.declared.command.Command.{Command}
use Rattle.links.specs.message_form.Numbers.{wide_number_at}
use Rattle.links.specs.message_form.CommandReading.{command_at}
use Rattle.links.specs.message_form.LogReading.{members_at, log_at}

-- two numbers
unfoldable pub pair_at : List ℕ → Result ((ℕ × ℕ) × List ℕ) Stop
pair_at bytes = do
  first ← wide_number_at bytes
  second ← wide_number_at first.1
  Ok ((first.0, second.0), second.1)

-- a NewBallot
unfoldable pub new_ballot_at : List ℕ → Result (Body Command × List ℕ) Stop
new_ballot_at bytes = do
  ballot ← wide_number_at bytes
  members ← members_at ballot.1
  previous ← wide_number_at members.1
  previous_members ← members_at previous.1
  Ok (bodies.NewBallot ballot.0 members.0 previous.0 previous_members.0, previous_members.1)

-- a ballot and a log
unfoldable pub ballot_log_at : List ℕ → Result ((ℕ × Log Command) × List ℕ) Stop
ballot_log_at bytes = do
  ballot ← wide_number_at bytes
  log ← log_at ballot.1
  Ok ((ballot.0, log.0), log.1)

-- an Append
unfoldable pub append_at : List ℕ → Result (Body Command × List ℕ) Stop
append_at bytes = do
  pair ← pair_at bytes
  command ← command_at pair.1
  Ok (bodies.Append pair.0.0 pair.0.1 command.0, command.1)

-- a body of one number
abbrev pub single_as : (ℕ → Body Command) → List ℕ → Result (Body Command × List ℕ) Stop
single_as body bytes = wide_number_at bytes >>= (λ ballot. Ok (body ballot.0, ballot.1))

-- a body of two numbers
abbrev pub pair_as : (ℕ → ℕ → Body Command) → List ℕ → Result (Body Command × List ℕ) Stop
pair_as body bytes = pair_at bytes >>= (λ pair. Ok (body pair.0.0 pair.0.1, pair.1))

-- a body of a ballot and a log
abbrev pub log_as : (ℕ → Log Command → Body Command) → List ℕ →
    Result (Body Command × List ℕ) Stop
log_as body bytes = ballot_log_at bytes >>= (λ pair. Ok (body pair.0.0 pair.0.1, pair.1))

-- the body of a kind that has numbers alone
abbrev pub numbers_of_kind : ℕ → List ℕ → Result (Body Command × List ℕ) Stop
numbers_of_kind kind bytes =
    if kind == 2 then pair_as bodies.Join bytes else
    if kind == 5 then pair_as bodies.Installed bytes else
    if kind == 6 then single_as bodies.Activate bytes else
    if kind == 7 then single_as bodies.Activated bytes else
    if kind == 8 then single_as bodies.Superseded bytes else
    if kind == 10 then pair_as bodies.Held bytes else
    if kind == 11 then pair_as bodies.Commit bytes else malformed kinds.Shape

-- the body of this kind; there are eleven
abbrev pub body_of_kind : ℕ → List ℕ → Result (Body Command × List ℕ) Stop
body_of_kind kind bytes =
    if kind == 1 then new_ballot_at bytes else
    if kind == 3 then log_as bodies.State bytes else
    if kind == 4 then log_as bodies.Install bytes else
    if kind == 9 then append_at bytes else numbers_of_kind kind bytes

-- a message, and the bytes after it
unfoldable pub message_at : List ℕ → Result (Message Command × List ℕ) Stop
message_at bytes = do
  kind ← byte_at bytes
  from ← byte_at kind.1
  body ← body_of_kind kind.0 from.1
  Ok (record { from = from.0; body = body.0 }, body.1)

-- a message, and nothing after it
unfoldable pub whole_message : List ℕ → Result (Message Command) Stop
whole_message bytes = do
  message ← message_at bytes
  ended message.1
  Ok message.0
