-- The bytes of a message: its kind, its sender, and its body. Numbers take eight bytes, the high
-- one first. Numbers of nodes take one byte, which is their whole range: two would give spellings
-- of no node, which every reader would have to refuse.
use Rattle.std.specs.Prelude.{ℕ, ◌<◌, ◌^◌, ◌≤◌, List, ◌∷◌, ◌++◌, length, Bool, false, ◌||◌}
use Rattle.std.specs.Prelude.{nat_lt, IsTrue}
use Rattle.std.specs.List.{AllByRecursion}
use Rattle.ballot_base.specs.Logs.{Log, places}
use Rattle.ballot_base.specs.declared.message.Body.{Body}
use Rattle.ballot_base.specs.declared.message.Body.TheVariants as bodies
use Rattle.ballot_base.specs.declared.message.Message.{Message}
use Rattle.broker_spec.specs.declared.command.Command.{Command}
use Rattle.session_base.specs.Bytes.{long_number}
use Rattle.session_base.specs.Counted.{counted_bytes}
use Rattle.links.specs.message_form.Numbers.{wide_number, IsWide}
use Rattle.links.specs.message_form.Commands.{command_bytes, IsCommand}
use Rattle.links.specs.declared.message_form.message_writers.TheConstants.{MAX_COUNTED}

-- members, with their count in one byte before them
abbrev pub members_bytes : List ℕ → List ℕ
members_bytes members = length members ∷ members

-- a command of a log, with its length in four bytes before it
abbrev pub sized_command_bytes : Command → List ℕ
sized_command_bytes command = long_number (length (command_bytes command)) ++ command_bytes command

-- a log: its base, the snapshot after its length, the commands after their count
abbrev pub log_bytes : Log Command → List ℕ
log_bytes log =
    wide_number log.base
    ++ (wide_number (length log.snapshot)
    ++ (log.snapshot ++ counted_bytes wide_number sized_command_bytes log.rest))

-- the kinds, in the order of the protocol's steps
abbrev pub kind_of : Body Command → ℕ
kind_of (bodies.NewBallot ballot members previous previous_members) = 1
kind_of (bodies.Join ballot previous) = 2
kind_of (bodies.State ballot log) = 3
kind_of (bodies.Install ballot log) = 4
kind_of (bodies.Installed ballot held) = 5
kind_of (bodies.Activate ballot) = 6
kind_of (bodies.Activated ballot) = 7
kind_of (bodies.Superseded ballot) = 8
kind_of (bodies.Append ballot place command) = 9
kind_of (bodies.Held ballot held) = 10
kind_of (bodies.Commit ballot held) = 11

-- the parts of a body in their order
abbrev pub body_bytes : Body Command → List ℕ
body_bytes (bodies.NewBallot ballot members previous previous_members) =
    wide_number ballot
    ++ (members_bytes members ++ (wide_number previous ++ members_bytes previous_members))
body_bytes (bodies.Join ballot previous) = wide_number ballot ++ wide_number previous
body_bytes (bodies.State ballot log) = wide_number ballot ++ log_bytes log
body_bytes (bodies.Install ballot log) = wide_number ballot ++ log_bytes log
body_bytes (bodies.Installed ballot held) = wide_number ballot ++ wide_number held
body_bytes (bodies.Activate ballot) = wide_number ballot
body_bytes (bodies.Activated ballot) = wide_number ballot
body_bytes (bodies.Superseded ballot) = wide_number ballot
body_bytes (bodies.Append ballot place command) =
    wide_number ballot ++ (wide_number place ++ command_bytes command)
body_bytes (bodies.Held ballot held) = wide_number ballot ++ wide_number held
body_bytes (bodies.Commit ballot held) = wide_number ballot ++ wide_number held

-- a whole message
abbrev pub written : Message Command → List ℕ
written message = kind_of message.body ∷ message.from ∷ body_bytes message.body

-- ---- the range

-- the most members that one byte counts; a lawful configuration has 7 at most
abbrev pub max_counted : ℕ
max_counted = MAX_COUNTED

-- whether there are more members than one byte counts
abbrev pub are_too_many : List ℕ → Bool
are_too_many members = nat_lt max_counted (length members)

-- whether a message has too many members to be written
abbrev pub has_too_many : Body Command → Bool
has_too_many (bodies.NewBallot ballot members previous previous_members) =
    are_too_many members || are_too_many previous_members
has_too_many _ = false

-- the message cannot be written
abbrev pub IsTooLarge : Message Command → Type 0
IsTooLarge message = IsTrue (has_too_many message.body)

-- a list of members that one byte counts
abbrev pub AreCounted : List ℕ → Type 0
AreCounted members = length members ≤ max_counted

-- a log whose places and whose commands are in their ranges
pub record IsLog (log : Log Command) : Type 0 where
  pub places_fit : IsWide (places log)
  pub snapshot_fits : IsWide (length log.snapshot)
  pub commands : AllByRecursion IsCommand log.rest

-- each part of a body is in its range
abbrev pub IsBody : Body Command → Type 0
IsBody (bodies.NewBallot ballot members previous previous_members) =
    IsWide ballot × AreCounted members × IsWide previous × AreCounted previous_members
IsBody (bodies.Join ballot previous) = IsWide ballot × IsWide previous
IsBody (bodies.State ballot log) = IsWide ballot × IsLog log
IsBody (bodies.Install ballot log) = IsWide ballot × IsLog log
IsBody (bodies.Installed ballot held) = IsWide ballot × IsWide held
IsBody (bodies.Activate ballot) = IsWide ballot
IsBody (bodies.Activated ballot) = IsWide ballot
IsBody (bodies.Superseded ballot) = IsWide ballot
IsBody (bodies.Append ballot place command) = IsWide ballot × IsWide place × IsCommand command
IsBody (bodies.Held ballot held) = IsWide ballot × IsWide held
IsBody (bodies.Commit ballot held) = IsWide ballot × IsWide held

-- a message that can be written, as every message of a program that is not too large
abbrev pub IsMessage : Message Command → Type 0
IsMessage message = (message.from < 2 ^ 8) × IsBody message.body
