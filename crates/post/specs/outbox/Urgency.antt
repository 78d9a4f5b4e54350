-- Which items wake the node for which they are queued.
use Rattle.std.specs.Prelude.{ℕ, Bool, true, false, not, nat_lt, List, length}
use Rattle.broker_spec.specs.declared.command.Command.{Command}
use Rattle.ballot_base.specs.declared.message.Body.{Body}
use Rattle.ballot_base.specs.declared.message.Body.TheVariants.{Commit}
use Rattle.world_base.specs.declared.node_core.item.Item.{Item}
use Rattle.world_base.specs.declared.node_core.item.Item.TheVariants.{Peer}
use Rattle.post.specs.declared.outbox.outbox.TheConstants.{MAX_HELPED}

-- true for a Commit
abbrev pub is_commit : Body Command → Bool
is_commit (Commit ballot held) = true
is_commit _ = false

-- true for all items but a Commit, on which a backup applies places and sends nothing
abbrev pub wakes : Item → Bool
wakes (Peer message) = not (is_commit message.body)
wakes _ = true

-- up to this many items are taken by the thread that queued one of them; more by the node's own
-- thread
abbrev pub max_helped : ℕ
max_helped = MAX_HELPED

-- there are more items than that
abbrev pub is_long : List Item → Bool
is_long items = nat_lt max_helped (length items)
