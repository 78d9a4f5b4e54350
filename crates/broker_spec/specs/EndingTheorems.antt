-- Theorems about a session that has ended: nothing more is sent on its connections (MQTT 3.1.2.4,
-- 4.1).
use Rattle.std.specs.Prelude.{◌≡◌, ◌≤◌, ◌+◌, ℕ, Bool, false, if◌then◌else◌, List, [], ◌∷◌}
use Rattle.std.specs.Prelude.{◌++◌, Some}
use Rattle.packet.specs.declared.packet.Packet.{Packet}
use Rattle.lists.specs.Lists.{In}
use Rattle.broker_spec.specs.Connection.{ConnectionName, same_connection}
use Rattle.broker_spec.specs.Place.{Client, Place, Past, Limits}
use Rattle.broker_spec.specs.Sessions.{accepts, session_start}
use Rattle.broker_spec.specs.Commands.{past_of}
use Rattle.broker_spec.specs.AnswersInOrder.{answers_at}
use Rattle.broker_spec.specs.declared.command.Command.{Command}
use Rattle.broker_spec.specs.declared.command.Command.TheVariants as commands
use Rattle.broker_spec.specs.declared.command.Output.TheVariants.{Send}

-- a place of a past, and the places below it
pub record StandsAt (past : Past) (place : Place) (below : Past) : Type 0 where
  pub later : Past
  pub is : past ≡ later ++ place ∷ below

-- whether a command is a Connect with this connection's name
abbrev pub is_connect_of : ConnectionName → Command → Bool
is_connect_of connection (commands.Connect other client clean) = same_connection connection other
is_connect_of connection _ = false

-- how many Connects with this connection's name a past has
abbrev pub connects_of : ConnectionName → Past → ℕ
connects_of connection (place ∷ past) =
    (if is_connect_of connection place.command then 1 else 0) + connects_of connection past
connects_of connection [] = 0

-- A connection with one Connect, which was accepted and lies in a session of its client, is sent
-- packets only at places of that session: no packet at a place outside of it.
abbrev pub EndsWithTheSession : Limits → Past → Type 0
EndsWithTheSession limits past =
    (place opened : Place) (below earlier : Past) (connection : ConnectionName) (packet : Packet)
    (client : Client) (clean : Bool) (start : ℕ)
    → connects_of connection past ≤ 1 → StandsAt past place below → StandsAt past opened earlier
    → In (Send connection packet) (answers_at limits place below)
    → accepts opened.command opened.mark client ≡ Some (connection, clean)
    → session_start (opened ∷ earlier) client ≡ Some start
    → session_start (place ∷ below) client ≡ Some start

-- for every list of commands, a connection is sent packets only at places of its session
abbrev pub NothingAfterTheEnd : Type 0
NothingAfterTheEnd =
    (limits : Limits) (commands : List Command)
    → EndsWithTheSession limits (past_of limits commands)
