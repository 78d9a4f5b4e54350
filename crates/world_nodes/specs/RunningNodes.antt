-- Which nodes run, which of them have something to cut, and which may propose.
use Rattle.std.specs.Prelude.{ℕ, zero, suc, Bool, false, not, if◌then◌else◌, List, Option, Some, None, slice_get}
use Rattle.ballot_base.specs.Compaction.{can_cut}
use Rattle.world_base.specs.node_core.Core.{CountedCore}
use Rattle.world_base.specs.node_core.Effects.{has_room}

-- the node, if it has not stopped
abbrev pub unless_stopped : Option CountedCore → Option CountedCore
unless_stopped None = None
unless_stopped (Some node) = if node.core.replica.state.stopped then None else Some node

-- the node of a number, if it exists and has not stopped
abbrev pub running : List CountedCore → ℕ → Option CountedCore
running nodes zero = None
running nodes (suc at) = unless_stopped (slice_get nodes at)

-- the node of a number, if it exists
abbrev pub numbered_node : List CountedCore → ℕ → Option CountedCore
numbered_node nodes zero = None
numbered_node nodes (suc at) = slice_get nodes at

-- whether there is a node, and it has not stopped
abbrev pub is_up : Option CountedCore → Bool
is_up None = false
is_up (Some node) = not node.core.replica.state.stopped

-- whether the node of a number exists and has not stopped
abbrev pub is_running : List CountedCore → ℕ → Bool
is_running nodes node = is_up (numbered_node nodes node)

-- the node, if it has something to cut
abbrev pub unless_whole : Option CountedCore → Option CountedCore
unless_whole None = None
unless_whole (Some node) = if can_cut node.core.replica.state then Some node else None

-- the node of a number, if it runs and has something to cut
abbrev pub cutting : List CountedCore → ℕ → Option CountedCore
cutting nodes node = unless_whole (running nodes node)

-- the node, if it serves clients and its log has room
abbrev pub unless_full : Option CountedCore → Option CountedCore
unless_full None = None
unless_full (Some node) = if has_room node.core then Some node else None

-- the node of a number, if it serves clients and its log has room
abbrev pub proposing : List CountedCore → ℕ → Option CountedCore
proposing nodes node = unless_full (running nodes node)
