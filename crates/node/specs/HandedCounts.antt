-- How many bytes a node handed over for a port, as far as it counts them.
use Rattle.std.specs.Prelude.{◌≡◌, ℕ, ◌+◌, ◌%◌, ◌==◌, ◌&&◌, nat_lt, if◌then◌else◌, List, Option, None, Some, IfSome, length, replicate, slice_get, slice_set}
use Rattle.ballot_base.specs.declared.config.Config.{Config}
use Rattle.run_history.specs.declared.event.RunEvent.{RunEvent}
use Rattle.world_base.specs.declared.node_connections.port.Port.{Port}
use Rattle.node.specs.Growth.{saturated}
use Rattle.node.specs.HandedBytes.{handed_at}
use Rattle.node.specs.declared.handed_counts.HandedCount.{HandedCount}
use Rattle.node.specs.declared.handed_counts.TheConstants.{COUNTED_PORTS, COUNT_LIMIT}

-- nothing was handed over yet
abbrev pub opening_counts : List HandedCount
opening_counts = replicate COUNTED_PORTS (record { port = record { 0 = 0 }; bytes = 0 })

-- What a count says of a port: its bytes, if it is that port's and they are fewer than 2^62; none of
-- a later port, and nothing of an earlier one.
abbrev pub count_says : HandedCount → Port → Option ℕ
count_says count port =
    if nat_lt count.port.0 port.0 then Some 0
    else (if (count.port.0 == port.0) && nat_lt count.bytes COUNT_LIMIT
    then Some count.bytes else None)

-- the count after so many bytes more were handed over for a port; a later port takes its place
abbrev pub count_after : HandedCount → Port → ℕ → HandedCount
count_after count port bytes =
    if nat_lt count.port.0 port.0 then record { port = port; bytes = bytes }
    else (if count.port.0 == port.0
    then record { port = port; bytes = saturated (count.bytes + bytes) }
    else count)

-- what the count at a place says of a port
abbrev pub place_says : Option HandedCount → Port → Option ℕ
place_says None port = None
place_says (Some count) port = count_says count port

-- how many bytes were handed over for a port, if these counts say it
abbrev pub counted_at : List HandedCount → Port → Option ℕ
counted_at counts port = place_says (slice_get counts (port.0 % COUNTED_PORTS)) port

-- the counts after so many bytes more for the port at a place, where there is this count
abbrev pub with_count : List HandedCount → ℕ → Option HandedCount → Port → ℕ → List HandedCount
with_count counts place None port bytes = counts
with_count counts place (Some count) port bytes =
    slice_set counts place (count_after count port bytes)

-- the counts after so many bytes more were handed over for a port
abbrev pub counts_after : List HandedCount → Port → ℕ → List HandedCount
counts_after counts port bytes =
    with_count counts (port.0 % COUNTED_PORTS) (slice_get counts (port.0 % COUNTED_PORTS)) port bytes

-- what the counts say of any port is how many bytes the node at this index handed over there by the
-- log
abbrev pub CountsAreRight : (nodes : ℕ) → Config → (index : ℕ) → List RunEvent → List HandedCount →
    Type 0
CountsAreRight nodes config index log counts =
    (port : Port) → IfSome (counted_at counts port) (λ bytes.
    bytes ≡ length (handed_at nodes config index port log))
