-- How a connection of a node changes.
use Rattle.std.specs.Prelude.{ℕ, ◌+◌, Bool, nat_le, if◌then◌else◌, List, [], ◌∷◌, ◌++◌, length}
use Rattle.world_base.specs.declared.node_connections.connection.ConnectionStage.TheVariants.{Proposed, Closed, Failed}
use Rattle.world_base.specs.declared.node_connections.connection.Connection.{Connection}
use Rattle.world_base.specs.declared.node_connections.connection.TheConstants.{MAX_PENDING}
use Rattle.world_base.specs.node_connections.Connections.{is_proposed}

-- bytes that came are held until they are read
abbrev pub with_unread : List ℕ → Connection → Connection
with_unread piece connection = record connection { unread = connection.unread ++ piece }

-- a packet was read, whole at this time, and these bytes follow it
abbrev pub left_with : ℕ → List ℕ → Connection → Connection
left_with now rest connection = record connection { unread = rest; last_packet = now }

-- a connection's CONNECT, with this keep alive, is proposed
abbrev pub noted_proposed : ℕ → Connection → Connection
noted_proposed keep_alive connection =
    record connection { stage = Proposed; keep_alive = keep_alive }

-- closed: no more is read, and pending output is still handed over
abbrev pub closed_connection : Connection → Connection
closed_connection connection =
    record connection { stage = Closed; keep_alive = 0; last_packet = 0; unread = [] }

-- bytes are appended to the pending output
abbrev pub putting : List ℕ → Connection → Connection
putting bytes connection = record connection { pending = connection.pending ++ bytes }

-- the most pending output of one connection, in bytes
abbrev pub max_pending : ℕ
max_pending = MAX_PENDING

-- closed as lost: the loss is to be reported to the broker, if its CONNECT was proposed
abbrev pub failing : Connection → Connection
failing connection =
    record (closed_connection connection) {
      stage = if is_proposed connection.stage then Failed else Closed;
    }

-- bytes are queued if there is room for them; otherwise the connection is closed as lost
abbrev pub with_queued : List ℕ → Connection → Connection
with_queued bytes connection =
    if nat_le (length connection.pending + length bytes) max_pending
    then putting bytes connection
    else failing connection

-- all pending output is handed over
abbrev pub nothing_pending : Connection → Connection
nothing_pending connection = record connection { pending = [] }

-- the list after a change of the first connection that passes the test
abbrev pub changed_where : (Connection → Bool) → (Connection → Connection) → List Connection →
    List Connection
changed_where test change [] = []
changed_where test change (connection ∷ others) =
    if test connection
    then change connection ∷ others
    else connection ∷ changed_where test change others
