-- How a `ListIndex` scans its clients and their filters.
use Rattle.std.specs.Prelude.{ℕ, List, [], ◌∷◌, ◌++◌, Option, Some, None, if◌then◌else◌, map}
use Rattle.std.specs.BTreeMap.{BTreeMap}
use Rattle.std.specs.Map.{keys_of}
use Rattle.std.specs.List.Sorted.{IsStrictlySortedBy}
use Rattle.std.specs.Cmp.Lexicographic.{slice_cmp}
use Rattle.std.specs.Ordering.{nat_cmp}
use Rattle.topics.specs.Matching.{is_match}
use Rattle.packet_base.specs.declared.qos.QoS.{QoS}
use Rattle.packet_base.specs.QoS.{greater_qos}
use Rattle.subs_base.specs.Granted.{Row, row_of}
use Rattle.subs_base.specs.ListIndex.{Filters, Clients}

-- each client with its filters, the maps as lists
abbrev pub listed : List (List ℕ × BTreeMap (List ℕ) QoS) → Clients
listed entries = map (λ entry. (entry.0, entry.1.entries)) entries

-- the greatest of this QoS and those of the filters that match
abbrev pub greatest_from : List ℕ → Option QoS → Filters → Option QoS
greatest_from topic best [] = best
greatest_from topic best (entry ∷ entries) =
    if is_match entry.0 topic then greatest_from topic (Some (greater_qos entry.1 best)) entries
    else greatest_from topic best entries

-- a row for each client with a matching filter
abbrev pub rows_of : List ℕ → Clients → List Row
rows_of topic [] = []
rows_of topic (entry ∷ entries) =
    row_of entry.0 (greatest_from topic None entry.1) ++ rows_of topic entries

-- the filters of each client are in order
abbrev pub AreOrdered : Clients → Type 0
AreOrdered [] = Unit {0}
AreOrdered (entry ∷ entries) =
    IsStrictlySortedBy (slice_cmp nat_cmp) (keys_of entry.1) × AreOrdered entries
