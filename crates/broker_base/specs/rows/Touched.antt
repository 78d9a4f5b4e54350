-- Which rows a place touches, and what it writes to one.
use Rattle.std.specs.Prelude.{◌≡◌, ◌⊎◌, Bool, true, false, [], ◌∷◌, Option, Some, None}
use Rattle.std.specs.BTreeMap.{is_at}
use Rattle.std.specs.Map.{remove_entry, set_value}
use Rattle.broker_spec.specs.Connection.{ConnectionName, same_connection}
use Rattle.broker_spec.specs.Place.{Client, by_bytes, same_client, Mark, Place}
use Rattle.broker_spec.specs.Sessions.{any_connection}
use Rattle.broker_base.specs.ClientSession.{ClientSession}
use Rattle.broker_base.specs.State.{Sessions}
use Rattle.broker_base.specs.Step.{touches}
use Rattle.broker_spec.specs.declared.command.Command.{Command}
use Rattle.broker_spec.specs.declared.command.Command.TheVariants as commands

-- the place touches none of these sessions
abbrev pub Untouched : Place → Sessions → Type 0
Untouched place (row ∷ rows) = (touches place row.0 row.1 ≡ false) × Untouched place rows
Untouched place [] = Unit {0}

-- the place touches no row except possibly the client's
abbrev pub TouchesOnly : Place → Client → Sessions → Type 0
TouchesOnly place client (row ∷ rows) =
    ((same_client client row.0 ≡ true) × Untouched place rows)
    ⊎ ((same_client client row.0 ≡ false) × (touches place row.0 row.1 ≡ false)
    × TouchesOnly place client rows)
TouchesOnly place client [] = Unit {0}

-- the sessions with this one for the client, or without one
abbrev pub written : Client → Option ClientSession → Sessions → Sessions
written client (Some kept) rows = set_value (is_at (by_bytes client)) rows kept
written client None rows = remove_entry (is_at (by_bytes client)) rows

-- the place touches no session but the client's and that of the connection
abbrev pub TouchesNoOther : Place → ConnectionName → Client → Type 0
TouchesNoOther place connection client =
    (other : Client) (kept : ClientSession) → same_client client other ≡ false →
    any_connection (same_connection connection) kept.connection ≡ false →
    touches place other kept ≡ false

-- the connection on which a command comes
abbrev pub comes_on : Command → Option ConnectionName
comes_on (commands.Packet connection packet) = Some connection
comes_on (commands.Connect connection client clean) = Some connection
comes_on (commands.Lost connection) = Some connection
comes_on (commands.Start ballot) = None
comes_on (commands.Expel client) = None

-- whether a mark is that of a taken publication
abbrev pub is_taken : Mark → Bool
is_taken (Mark.Taken sender) = true
is_taken _ = false

-- whether a mark is that of an accepted Connect
abbrev pub is_accepted : Mark → Bool
is_accepted Mark.Accepted = true
is_accepted _ = false

-- a command with this mark touches no row except possibly this client's
abbrev pub IsMarkOf : Client → Mark → Type 0
IsMarkOf client Mark.Unmarked = Unit {0}
IsMarkOf client Mark.Full = Unit {0}
IsMarkOf client Mark.Accepted = ⊥
IsMarkOf client (Mark.Taken sender) = ⊥
IsMarkOf client (Mark.Leaves sender) = sender ≡ client
IsMarkOf client (Mark.Refused sender) = sender ≡ client
IsMarkOf client (Mark.Repeat sender) = sender ≡ client
IsMarkOf client (Mark.Granted sender which) = sender ≡ client
IsMarkOf client (Mark.Handled sender) = sender ≡ client

-- a command with this mark touches no row
abbrev pub TouchesNoRow : Mark → Type 0
TouchesNoRow Mark.Unmarked = Unit {0}
TouchesNoRow Mark.Full = Unit {0}
TouchesNoRow _ = ⊥
