-- The connections of a node, in the order in which they were opened, and what happens to one (MQTT
-- 3.1.2.10, 3.2.2.3).
use Rattle.std.specs.Prelude.{ℕ, ◌+◌, ◌*◌, Bool, true, false, not, ◌&&◌, ◌||◌, ◌==◌, nat_lt, [], length}
use Rattle.broker_spec.specs.Connection.{ConnectionName, same_connection}
use Rattle.world_base.specs.declared.node_connections.port.Port.{Port}
use Rattle.world_base.specs.declared.node_connections.connection.ConnectionStage.{ConnectionStage}
use Rattle.world_base.specs.declared.node_connections.connection.ConnectionStage.TheVariants.{Awaits, Proposed, Closed, Failed}
use Rattle.world_base.specs.declared.node_connections.connection.Connection.{Connection}

-- whether the node has closed it, for good or as lost
abbrev pub is_closed : ConnectionStage → Bool
is_closed Awaits = false
is_closed Proposed = false
is_closed Closed = true
is_closed Failed = true

-- whether a connection's first packet is still to come
abbrev pub awaits_first_packet : ConnectionStage → Bool
awaits_first_packet Awaits = true
awaits_first_packet Proposed = false
awaits_first_packet Closed = false
awaits_first_packet Failed = false

-- whether a connection's CONNECT was proposed, and it is open
abbrev pub is_proposed : ConnectionStage → Bool
is_proposed Awaits = false
is_proposed Proposed = true
is_proposed Closed = false
is_proposed Failed = false

-- closed as lost, and the loss is still to be reported to the broker
abbrev pub is_failed : ConnectionStage → Bool
is_failed Awaits = false
is_failed Proposed = false
is_failed Closed = false
is_failed Failed = true

-- whether a connection is closed and its loss is still to be reported
abbrev pub has_failed : Connection → Bool
has_failed connection = is_failed connection.stage

-- whether a connection is one of this port, open or closed
abbrev pub is_at : Port → Connection → Bool
is_at port connection = connection.port.0 == port.0

-- whether a connection is the open one of a port
abbrev pub is_open_at : Port → Connection → Bool
is_open_at port connection = not (is_closed connection.stage) && is_at port connection

-- whether a connection is the open one of a name
abbrev pub is_open_named : ConnectionName → Connection → Bool
is_open_named name connection =
    not (is_closed connection.stage) && same_connection connection.name name

-- a connection is listed while it is open, and until all that was queued for it was handed over
abbrev pub is_listed : Connection → Bool
is_listed connection = not (is_closed connection.stage) || not (length connection.pending == 0)

-- a connection is open, has a keep alive, and no whole packet came for more than one and a half
-- times of it (MQTT 3.1.2.10); a keep alive counts seconds, times count milliseconds
abbrev pub is_silent : ℕ → Connection → Bool
is_silent now connection =
    (not (is_closed connection.stage) && nat_lt 0 connection.keep_alive)
    && nat_lt (connection.last_packet + 1500 * connection.keep_alive) now

-- a new connection
abbrev pub fresh : Port → ConnectionName → Connection
fresh port name =
    record {
      port = port;
      name = name;
      stage = Awaits;
      keep_alive = 0;
      last_packet = 0;
      unread = [];
      pending = [];
    }
