-- The rows of one filter, in each of the forms of `Rows`.
use Rattle.std.specs.Prelude.{◌≡◌, ℕ, List, [], ◌∷◌, bytes_eq, Option, if◌then◌else◌}
use Rattle.std.specs.BTreeMap.{is_at}
use Rattle.std.specs.Map.{lookup}
use Rattle.std.specs.Cmp.Lexicographic.{slice_cmp}
use Rattle.std.specs.Ordering.{nat_cmp}
use Rattle.packet_base.specs.declared.qos.QoS.{QoS}
use Rattle.subs.specs.declared.rows.Rows.{Rows}
use Rattle.subs.specs.declared.rows.Rows.TheVariants as kinds

-- each client with its QoS
abbrev pub rows_as_list : Rows → List (List ℕ × QoS)
rows_as_list kinds.Empty = []
rows_as_list (kinds.One client qos) = (client, qos) ∷ []
rows_as_list (kinds.Many rows) = rows.entries

-- the client's QoS
abbrev pub qos_of_client : Rows → List ℕ → Option QoS
qos_of_client rows client = lookup (is_at (slice_cmp nat_cmp client)) (rows_as_list rows)

-- the client's row becomes this one, and no other changes
abbrev pub SetsAt : Rows → Rows → List ℕ → Option QoS → Type 0
SetsAt old new client kept =
    (other : List ℕ)
    → qos_of_client new other
    ≡ (if bytes_eq client other then kept else qos_of_client old other)
