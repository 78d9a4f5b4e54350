-- Packet Identifiers: which are in use, and which is free (MQTT 2.3.1).
use Rattle.std.specs.Prelude.{ℕ, zero, suc, ◌==◌, not, if◌then◌else◌, List, length, filter}
use Rattle.std.specs.Ordering.{nat_cmp}
use Rattle.std.specs.BTreeSet.{insert_key}
use Rattle.lists.specs.Lists.{has_id}

-- the greatest Packet Identifier: a number of two bytes, not 0 (MQTT 2.3.1)
abbrev pub max_id : ℕ
max_id = 65535

-- the first identifier from this one on that is not busy, looking at no more than this many
abbrev pub free_from : ℕ → ℕ → List ℕ → ℕ
free_from zero id busy = id
free_from (suc many) id busy = if has_id id busy then free_from many (suc id) busy else id

-- the least number from 1 up that is not busy
abbrev pub least_free : List ℕ → ℕ
least_free busy = free_from (length busy) 1 busy

-- the identifiers and this one, ascending, each once
abbrev pub with_id : ℕ → List ℕ → List ℕ
with_id id ids = insert_key nat_cmp ids id

-- the identifiers without this one
abbrev pub without_id : ℕ → List ℕ → List ℕ
without_id id = filter (λ other. not (id == other))
