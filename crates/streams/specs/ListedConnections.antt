-- The connections of a table, in the order in which they are written to.
use Rattle.std.specs.Prelude.{◌≡◌, ℕ, zero, suc, ◌≤◌, ◌%◌, ◌^◌, ◌==◌, Bool, false, bit_and, nat_le, not}
use Rattle.std.specs.Prelude.{List, [], ◌∷◌, ◌++◌, length, Option, None, Some, if◌then◌else◌}
use Rattle.slab.specs.Slab.{Slab, get}
use Rattle.world_base.specs.declared.node_connections.port.Port.{Port}
use Rattle.lists.specs.Lists.{Each}
use Rattle.streams.specs.declared.link.Link.{Link}
use Rattle.streams.specs.declared.idle_lanes.IdleLanes.{IdleLanes}

-- the lane of a port is one of these lanes
abbrev pub is_lane_idle : IdleLanes → Port → Bool
is_lane_idle lanes port = not (bit_and lanes.0 (2 ^ (port.0 % 64)) == 0)

-- Connections were appended to a list: at most `most` in all, and none whose lane is idle.
pub record AddsBusy {H : Type 0} (idle : IdleLanes) (most : ℕ) (before after : List (Link H)) :
    Type 0 where
  pub added : List (Link H)
  pub is : after ≡ before ++ added
  pub busy : Each (λ link. is_lane_idle idle link.port ≡ false) added
  pub few : length added ≤ most

-- the connection that is listed at an index; an index may be taken for a connection that is not yet
-- listed
abbrev pub connection_listed_at : {A : Type 0} → Option (Option A) → Option A
connection_listed_at None = None
connection_listed_at (Some listed) = listed

module _ {H A : Type 0} (link_of : A → Link H) where
  -- a connection, unless its lane is idle
  abbrev pub busy_at : IdleLanes → Option A → List (Link H)
  busy_at idle None = []
  busy_at idle (Some link) = if is_lane_idle idle (link_of link).port then [] else link_of link ∷ []

  -- the connections that are listed from one index up to another, except those of idle lanes
  abbrev pub busy_between : IdleLanes → Slab (Option A) → ℕ → ℕ → List (Link H)
  busy_between idle slots first zero = []
  busy_between idle slots first (suc end) =
      if nat_le first end
      then busy_between idle slots first end ++ busy_at idle (connection_listed_at (get slots end))
      else []
