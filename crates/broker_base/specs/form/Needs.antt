-- When the broker's machine may run out of memory.
use Rattle.std.specs.Prelude.{ℕ, Bool, true, false, nat_lt, nat_le, ◌&&◌, ◌==◌, if◌then◌else◌, List}
use Rattle.std.specs.Prelude.{is_some, Result, Ok, Err}
use Rattle.machine.specs.Machine.{Needs}
use Rattle.packet_base.specs.declared.stop.Stop.{Stop}
use Rattle.packet_base.specs.Readers.{number_at}
use Rattle.retained.specs.Retained.{max_topics}
use Rattle.broker_spec.specs.Commands.{max_sessions, needs_to_copy}
use Rattle.broker_spec.specs.declared.command.Command.{Command}
use Rattle.broker_spec.specs.declared.command.Command.TheVariants as commands
use Rattle.broker_base.specs.State.{State, session_in}
use Rattle.broker_base.specs.StepAnswers.{connection_of}
use Rattle.broker_base.specs.rows.Owners.{owners_in}
use Rattle.broker_base.specs.form.Form.{head_at}

-- Whether a command needs memory: a Connect, a packet on some client's current connection, and an
-- Expel that closes a connection. Others change no row and answer nothing, or only end connections.
abbrev pub needs_to_apply : State → Command → Bool
needs_to_apply state (commands.Connect connection client clean) = true
needs_to_apply state (commands.Packet connection packet) =
    is_some (owners_in state.sessions connection)
needs_to_apply state (commands.Expel client) =
    is_some (connection_of (session_in client state.sessions))
needs_to_apply state _ = false

-- whether this is the count of a list that has items, and not more than it may have
abbrev pub counts_some : ℕ → Result (ℕ × List ℕ) Stop → Bool
counts_some most (Ok count) = nat_lt 0 count.0 && nat_le count.0 most
counts_some most (Err stop) = false

-- whether some session follows, or no session and some topic, and not too many
abbrev pub has_rows : Result (ℕ × List ℕ) Stop → Bool
has_rows (Ok sessions) =
    if sessions.0 == 0 then counts_some max_topics (number_at sessions.1)
    else nat_le sessions.0 max_sessions
has_rows (Err stop) = false

-- whether the head is read, and rows follow it
abbrev pub has_head_and_rows : Result (ℕ × List ℕ) Stop → Bool
has_head_and_rows (Ok head) = has_rows (number_at head.1)
has_head_and_rows (Err stop) = false

-- Whether bytes need memory to be thawed: those of a broker with a session or a retained topic do;
-- those whose head or whose first count is malformed do not.
abbrev pub needs_to_thaw : List ℕ → Bool
needs_to_thaw bytes = has_head_and_rows (head_at bytes)

-- when the broker's machine may run out of memory: an empty one is made without
abbrev pub broker_needs : Needs State Command
broker_needs =
    record {
      to_open = false;
      to_copy = needs_to_copy;
      to_apply = needs_to_apply;
      to_thaw = needs_to_thaw;
    }
