-- The pending output of a connection.
use Rattle.std.specs.Prelude.{ℕ, Bool, not, ◌&&◌, ◌==◌, if◌then◌else◌, List, [], length, Option, Some, None}
use Rattle.world_base.specs.declared.node_connections.handed.Handed.{Handed}
use Rattle.world_base.specs.declared.node_connections.handed.Handed.TheVariants as answers
use Rattle.world_base.specs.declared.node_connections.connection.Connection.{Connection}
use Rattle.world_base.specs.node_connections.Connections.{is_closed}

-- what was queued and not yet handed over
abbrev pub pending_bytes : Option Connection → List ℕ
pending_bytes None = []
pending_bytes (Some connection) = connection.pending

-- whether more may come: not if the connection is over, or was never opened
abbrev pub handed_after : Option Connection → Handed
handed_after None = answers.Closed
handed_after (Some connection) = if is_closed connection.stage then answers.Closed else answers.Open

-- open, without pending output
abbrev pub is_idle : Connection → Bool
is_idle connection = not (is_closed connection.stage) && (length connection.pending == 0)
