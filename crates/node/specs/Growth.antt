-- How much the items that a node takes add to its log, and when its size makes a cut due.
use Rattle.std.specs.Prelude.{ℕ, ◌+◌, ◌*◌, ◌-◌, ◌^◌, Bool, ◌&&◌, not, nat_lt, max, min, List, length, fold, sum_by}
use Rattle.packet.specs.declared.packet.Packet.{Packet}
use Rattle.packet.specs.declared.packet.Packet.TheVariants as packets
use Rattle.packet.specs.declared.subscribe.Subscription.{Subscription}
use Rattle.broker_spec.specs.declared.command.Command.{Command}
use Rattle.broker_spec.specs.declared.command.Command.TheVariants as commands
use Rattle.world_base.specs.node_core.Core.{CoreState}
use Rattle.ballot_base.specs.declared.message.Body.{Body}
use Rattle.ballot_base.specs.declared.message.Body.TheVariants.{Append, State, Install}
use Rattle.world_base.specs.declared.node_core.item.Item.{Item}
use Rattle.world_base.specs.declared.node_core.item.Item.TheVariants.{Peer, Bytes, Cut}
use Rattle.node.specs.declared.growth.TheConstants.{COMMAND_BYTES, MAX_UNCUT_BYTES}

-- the size of a packet apart from its fixed part: topic and payload, or filters
abbrev pub bytes_of_packet : Packet → ℕ
bytes_of_packet (packets.Publish publish) = length publish.topic + length publish.payload
bytes_of_packet (packets.Subscribe subscribe) =
    sum_by (λ (subscription : Subscription). length subscription.filter) subscribe.filters
bytes_of_packet (packets.Unsubscribe unsubscribe) =
    sum_by (λ (filter : List ℕ). length filter) unsubscribe.filters
bytes_of_packet _ = 0

-- the size of a command: that of its packet, or 0
abbrev pub bytes_of_command : Command → ℕ
bytes_of_command (commands.Packet connection packet) = bytes_of_packet packet
bytes_of_command _ = 0

-- the bytes of the commands that a message of another node brings
abbrev pub bytes_of_body : Body Command → ℕ
bytes_of_body (Append ballot place command) = bytes_of_command command
bytes_of_body (State ballot log) = sum_by bytes_of_command log.rest
bytes_of_body (Install ballot log) = sum_by bytes_of_command log.rest
bytes_of_body _ = 0

-- the bytes that an item brings: those of its message, or those of its piece
abbrev pub bytes_of_item : Item → ℕ
bytes_of_item (Peer message) = bytes_of_body message.body
bytes_of_item (Bytes port piece now) = length piece
bytes_of_item _ = 0

-- the bytes that items brought since the last cut, after one more item
abbrev pub grown : ℕ → Item → ℕ
grown bytes Cut = 0
grown bytes item = bytes + bytes_of_item item

-- the bytes that these items, each with its lane, brought since the last cut among them
abbrev pub bytes_since_cut : List (ℕ × Item) → ℕ
bytes_since_cut taken = fold (λ bytes (one : ℕ × Item). grown bytes one.1) 0 taken

-- there are commands that a cut would drop
abbrev pub can_drop : CoreState → Bool
can_drop core =
    not core.replica.state.stopped
    && nat_lt core.replica.state.log.base core.replica.state.committed

-- how many bytes each command that a cut would drop counts, beside its text
abbrev pub command_bytes : ℕ
command_bytes = COMMAND_BYTES

-- up to this size no cut is due: 16 MiB
abbrev pub max_uncut_bytes : ℕ
max_uncut_bytes = MAX_UNCUT_BYTES

-- True if the size of a node's log makes a cut due: there are commands to drop, and what was taken
-- since the last cut, with `command_bytes` more for each command to drop, exceeds both 16 MiB and
-- the snapshot.
abbrev pub wants_cut : List (ℕ × Item) → CoreState → Bool
wants_cut taken core =
    can_drop core
    && nat_lt (max max_uncut_bytes (length core.replica.state.log.snapshot))
    (bytes_since_cut taken
    + command_bytes * (core.replica.state.committed - core.replica.state.log.base))

-- a count of bytes that saturates at 2^64 - 1
abbrev pub saturated : ℕ → ℕ
saturated bytes = min bytes (2 ^ 64 - 1)
