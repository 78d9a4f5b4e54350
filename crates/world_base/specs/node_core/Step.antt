-- What one item does to a node.
use Rattle.std.specs.Prelude.{ℕ, ◌+◌, Bool, not, ◌&&◌, ◌==◌, if◌then◌else◌, [], ◌∷◌, ◌++◌, map, filter}
use Rattle.std.specs.List.{list_any}
use Rattle.broker_spec.specs.Connection.{ConnectionName, is_connection_name}
use Rattle.broker_spec.specs.declared.command.Command.TheVariants as commands
use Rattle.ballot_base.specs.Compaction.{can_cut, cut}
use Rattle.ballot_base.specs.Losses.{halted}
use Rattle.ballot_base.specs.Protocol.Input.{Receives, Ticks}
use Rattle.world_base.specs.declared.node_connections.port.Port.{Port}
use Rattle.world_base.specs.declared.node_core.item.Item.{Item}
use Rattle.world_base.specs.declared.node_core.item.Item.TheVariants.{Peer, Tick, Opened, Bytes, Ended, Expel, Cut, Crash}
use Rattle.world_base.specs.node_connections.Connections.{is_at, is_listed, fresh}
use Rattle.world_base.specs.node_connections.ConnectionChanges.{with_unread, closed_connection}
use Rattle.world_base.specs.node_core.Core.{CoreState, StepOutcome, rules, serves}
use Rattle.world_base.specs.node_core.FailedConnections.{reports_all_failed}
use Rattle.world_base.specs.node_core.KeepAlive.{ends_all_silent}
use Rattle.world_base.specs.node_core.PacketInput.{changes, port_closed, reads_all}
use Rattle.world_base.specs.node_core.Effects.{without_messages, then_also, drives, proposes}

-- how many connections it accepted in the ballot that it joined
abbrev pub accepted : CoreState → ℕ
accepted core =
    if core.last_name.ballot == core.replica.state.joined then core.last_name.count else 0

-- the name of the next connection: those of a ballot are numbered from 1
abbrev pub next_name : CoreState → ConnectionName
next_name core = record { ballot = core.replica.state.joined; count = accepted core + 1 }

-- a connection is accepted while the node serves clients and has a name for it; a port may be used
-- again once nothing is listed for it
abbrev pub accepts_connection : Port → CoreState → Bool
accepts_connection port core =
    (serves core && not (list_any (is_at port) core.connections))
    && is_connection_name (next_name core)

-- a connection that is accepted gets the next name of the ballot
unfoldable pub with_next_connection : Port → CoreState → CoreState
with_next_connection port core =
    if accepts_connection port core
    then record core {
      last_name = next_name core;
      connections = core.connections ++ fresh port (next_name core) ∷ [];
    }
    else core

-- if the node no longer serves clients all connections are closed; a closed one without pending
-- output is removed
unfoldable pub settled : CoreState → CoreState
settled core =
    record core {
      connections = filter is_listed
          (if serves core then core.connections else map closed_connection core.connections);
    }

-- the node after a cut of its log
abbrev pub with_cut : CoreState → CoreState
with_cut core =
    record core { replica = record core.replica { state = cut rules core.replica.state } }

-- the replica cuts its log if there is something to cut
unfoldable pub cuts : CoreState → CoreState
cuts core = if can_cut core.replica.state then with_cut core else core

-- the node crashes: its replica stops for good
abbrev pub crashed : CoreState → CoreState
crashed core =
    record core { replica = record core.replica { state = halted rules core.replica.state } }

-- what an item asks for, without the reports of connections that failed in the step
abbrev pub does_item : Item → CoreState → StepOutcome
does_item (Peer message) core = drives (Receives message) core
does_item (Tick now) core = then_also (drives Ticks core) (ends_all_silent now)
does_item (Opened port now) core = without_messages (with_next_connection port core)
does_item (Bytes port piece now) core =
    then_also (without_messages (changes port (with_unread piece) core)) (reads_all now port)
does_item (Ended port) core = port_closed port core
does_item (Expel client) core = proposes (commands.Expel client) core
does_item Cut core = without_messages (cuts core)
does_item Crash core = without_messages (crashed core)

-- what an item asks for, and then the reports of connections that failed in the step
abbrev pub acts_on : Item → CoreState → StepOutcome
acts_on item core = then_also (does_item item core) reports_all_failed

-- the step of a node on an item, after which connections are settled
abbrev pub node_step : Item → CoreState → StepOutcome
node_step item core =
    let outcome = acts_on item core in
    record { core = settled outcome.core; messages = outcome.messages }
