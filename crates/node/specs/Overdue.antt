-- When a connection is ended because its first packet does not come.
use Rattle.std.specs.Prelude.{ℕ, ◌+◌, Bool, false, nat_lt}
use Rattle.world_base.specs.declared.node_connections.standing.Standing.{Standing}
use Rattle.world_base.specs.declared.node_connections.standing.Standing.TheVariants.{Awaits, Proposed, Closed}
use Rattle.node.specs.declared.overdue.TheConstants.{FIRST_PACKET_MILLIS}

-- the connection's first packet is not whole more than ten seconds after it was accepted; times are
-- milliseconds
abbrev pub is_overdue : Standing → ℕ → ℕ → Bool
is_overdue Awaits opened now = nat_lt (opened + FIRST_PACKET_MILLIS) now
is_overdue Proposed opened now = false
is_overdue Closed opened now = false
