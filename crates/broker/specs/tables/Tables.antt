-- The tables of a broker: the state that they show, and how they agree with each other.
use Rattle.std.specs.Prelude.{◌≡◌, List, ◌++◌}
use Rattle.std.specs.declared.cmp.Ordering.{Ordering}
use Rattle.std.specs.Ordering.{nat_cmp, ordering_then}
use Rattle.std.specs.BTreeMap.{is_at}
use Rattle.std.specs.Map.{lookup}
use Rattle.subs_base.specs.ListIndex.{content_of}
use Rattle.broker_spec.specs.Connection.{ConnectionName}
use Rattle.broker_spec.specs.Place.{Client}
use Rattle.broker_spec.specs.Commands.{usual_limits}
use Rattle.broker_spec.specs.Window.{wide_window}
use Rattle.broker_spec.specs.declared.command.Command.{Command}
use Rattle.broker_spec.specs.declared.command.Output.{Output}
use Rattle.broker_base.specs.State.{State}
use Rattle.broker_base.specs.StateTheorems.{IsSound}
use Rattle.broker_base.specs.Step.{step}
use Rattle.broker_base.specs.rows.Owners.{Owners, owners_in}
use Rattle.broker_base.specs.rows.Indexed.{content_in}
use Rattle.broker.specs.declared.tables.tables.Tables.{Tables}

-- connections are ordered by ballot, then by number
abbrev pub by_connection : ConnectionName → ConnectionName → Ordering
by_connection name other =
    ordering_then (nat_cmp name.ballot other.ballot) (nat_cmp name.count other.count)

-- the client of each connection, from the entries of the map of connections
abbrev pub owners_at : List (ConnectionName × Client) → Owners
owners_at entries connection = lookup (is_at (by_connection connection)) entries

-- the state that the tables show
abbrev pub state_in : Tables → State
state_in tables =
    record {
      window = tables.window;
      sessions = tables.sessions.entries;
      retained = tables.retained;
    }

-- the map of connections has exactly those of the sessions, and the content of the index is the
-- subscriptions of the sessions
pub record IsTied (tables : Tables) : Type 0 where
  pub owners :
      (connection : ConnectionName)
      → owners_at tables.owners.entries connection ≡ owners_in tables.sessions.entries connection
  pub index : content_of tables.index ≡ content_in tables.sessions.entries

-- the tables are tied and their sessions are sound
pub record IsConsistent (tables : Tables) : Type 0 where
  pub sound : IsSound (state_in tables)
  pub tied : IsTied tables

-- the state after a command, and its answers
unfoldable pub stepped : Tables → Command → State × List Output
stepped tables command = step usual_limits wide_window (state_in tables) command

-- The command was applied: the state after it is that of the step, and the answers of the step are
-- appended to the outputs that were there (docs/MODEL.md, *The step*).
pub record DoesCommand (old new : Tables) (before after : List Output) (command : Command)
    : Type 0 where
  pub state : state_in new ≡ (stepped old command).0
  pub outputs : after ≡ before ++ (stepped old command).1
