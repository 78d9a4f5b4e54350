-- The value of a `ListIndex` in contracts.
use Rattle.std.specs.Prelude.{ℕ, List, Option, option_and_then}
use Rattle.std.specs.BTreeMap.{is_at}
use Rattle.std.specs.Map.{lookup}
use Rattle.std.specs.Cmp.Lexicographic.{slice_cmp}
use Rattle.std.specs.Ordering.{nat_cmp}
use Rattle.packet_base.specs.declared.qos.QoS.{QoS}
use Rattle.subs_base.specs.Content.{Content}

-- the filters of one client with their QoS, in the order of their bytes
abbrev pub Filters : Type 0
Filters = List (List ℕ × QoS)

-- the clients in the order of their bytes, each with its filters
abbrev pub Clients : Type 0
Clients = List (List ℕ × Filters)

-- the value of a text in a list of pairs
abbrev pub at : {X : Type 0} → List ℕ → List (List ℕ × X) → Option X
at text entries = lookup (is_at (slice_cmp nat_cmp text)) entries

-- the content of the index: the QoS of each client's filter
abbrev pub content_of : Clients → Content
content_of clients client filter = option_and_then (at filter) (at client clients)
