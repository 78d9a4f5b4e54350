-- Reading members and logs, from left to right, up to the first fault. No count and no length is
-- believed before the bytes are there that it speaks of.
use Rattle.std.specs.Prelude.{ℕ, ◌-◌, ◌^◌, Bool, true, List, Result, Ok}
use Rattle.packet_base.specs.declared.stop.Stop.{Stop}
use Rattle.packet_base.specs.Readers.{◌>>=◌, ◌>>◌, byte_at, front_at, ended}
use Rattle.ballot_base.specs.Logs.{Log}
use Rattle.broker_spec.specs.declared.command.Command.{Command}
use Rattle.session_base.specs.Counted.{counted_items_at}
use Rattle.session_base.specs.Form.{long_number_at}
use Rattle.links.specs.message_form.Numbers.{wide_number_at}
use Rattle.links.specs.message_form.CommandReading.{command_at}

-- members, after their count
unfoldable pub members_at : List ℕ → Result (List ℕ × List ℕ) Stop
members_at bytes = do
  count ← byte_at bytes
  front_at count.0 count.1

-- a command, and nothing after it
unfoldable pub whole_command : List ℕ → Result Command Stop
whole_command bytes = do
  command ← command_at bytes
  ended command.1
  Ok command.0

-- a command of a log, which has as many bytes as the length before it says
unfoldable pub sized_command_at : List ℕ → Result (Command × List ℕ) Stop
sized_command_at bytes = do
  len ← long_number_at bytes
  front ← front_at len.0 len.1
  command ← whole_command front.0
  Ok (command, front.1)

-- a command may follow any others
abbrev pub anything : List Command → Command → Bool
anything commands command = true

-- the most commands of a log with this base, so that its length is below 2^64
abbrev pub most_after : ℕ → ℕ
most_after base = 2 ^ 64 - 1 - base

-- a log: its base, its snapshot, its commands
unfoldable pub log_at : List ℕ → Result (Log Command × List ℕ) Stop
log_at bytes = do
  base ← wide_number_at bytes
  len ← wide_number_at base.1
  snapshot ← front_at len.0 len.1
  rest ← counted_items_at wide_number_at anything sized_command_at (most_after base.0) snapshot.1
  Ok (record { base = base.0; snapshot = snapshot.0; rest = rest.0 }, rest.1)
