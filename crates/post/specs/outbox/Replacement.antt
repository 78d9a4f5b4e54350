-- Which waiting message is replaced by a newer one.
use Rattle.std.specs.Prelude.{ℕ, Bool, false, ◌==◌, ◌&&◌, ◌-◌, nat_le, if◌then◌else◌, List, length, Option, Some, None, take, slice_get}
use Rattle.broker_spec.specs.declared.command.Command.{Command}
use Rattle.ballot_base.specs.declared.message.Body.{Body}
use Rattle.ballot_base.specs.declared.message.Body.TheVariants.{Held, Commit}
use Rattle.world_base.specs.declared.node_core.item.Item.{Item}
use Rattle.world_base.specs.declared.node_core.item.Item.TheVariants.{Peer}

-- a Held of this ballot for at most this many places
abbrev pub is_held_within : ℕ → ℕ → Body Command → Bool
is_held_within ballot held (Held earlier fewer) = earlier == ballot && nat_le fewer held
is_held_within ballot held _ = false

-- a Commit of this ballot for at most this many places
abbrev pub is_commit_within : ℕ → ℕ → Body Command → Bool
is_commit_within ballot held (Commit earlier fewer) = earlier == ballot && nat_le fewer held
is_commit_within ballot held _ = false

-- true if the newer message says all that the older one said: a Held or Commit of the same ballot
-- with no smaller count
abbrev pub covers : Body Command → Body Command → Bool
covers (Held ballot held) older = is_held_within ballot held older
covers (Commit ballot held) older = is_commit_within ballot held older
covers _ older = false

-- true if an item replaces an older one of the same node
abbrev pub replaces : Item → Item → Bool
replaces (Peer newer) (Peer older) = newer.from == older.from && covers newer.body older.body
replaces _ _ = false

-- the newest of the items that wait
abbrev pub newest_item : List Item → Option Item
newest_item items = slice_get items (length items - 1)

-- true if an item replaces this one, if there is one
abbrev pub replaces_one : Item → Option Item → Bool
replaces_one item (Some older) = replaces item older
replaces_one item None = false

-- what still waits when an item is queued: all but the newest, if the item replaces that
abbrev pub still_waiting : Item → List Item → List Item
still_waiting item items =
    if replaces_one item (newest_item items) then take (length items - 1) items else items
