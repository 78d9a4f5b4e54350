-- The clients that get a publication, and at which QoS (MQTT 3.3.5).
use Rattle.std.specs.Prelude.{◌≡◌, ◌≤◌, ℕ, List, [], ◌∷◌, ◌++◌, map, All, Contains, Option}
use Rattle.std.specs.Prelude.{Some, None}
use Rattle.std.specs.List.Sorted.{IsStrictlySortedBy}
use Rattle.std.specs.Cmp.Lexicographic.{slice_cmp}
use Rattle.std.specs.Ordering.{nat_cmp}
use Rattle.topics.specs.Matching.{Matches}
use Rattle.packet_base.specs.declared.qos.QoS.{QoS}
use Rattle.packet_base.specs.QoS.{qos_number}
use Rattle.subs_base.specs.Content.{Content}

-- a client with the QoS at which it gets a publication
abbrev pub Row : Type 0
Row = List ℕ × QoS

-- the client's row, if it gets the publication
abbrev pub row_of : List ℕ → Option QoS → List Row
row_of client None = []
row_of client (Some qos) = (client, qos) ∷ []

-- the rows' clients
abbrev pub clients_of_rows : List Row → List (List ℕ)
clients_of_rows rows = map (λ row. row.0) rows

-- this QoS is the greatest of the client's filters that match the topic (MQTT 3.3.5)
pub record IsGreatest (content : Content) (topic client : List ℕ) (qos : QoS) : Type 0 where
  pub asked : (filter : List ℕ) × (content client filter ≡ Some qos) × Matches filter topic
  pub greatest :
      (filter : List ℕ) (other : QoS)
      → content client filter ≡ Some other
      → Matches filter topic
      → qos_number other ≤ qos_number qos

-- a row for each client with a matching filter, in the order of the clients' bytes
pub record IsGranted (content : Content) (topic : List ℕ) (rows : List Row) : Type 0 where
  pub rising : IsStrictlySortedBy (slice_cmp nat_cmp) (clients_of_rows rows)
  pub greatest : All (λ row. IsGreatest content topic row.0 row.1) rows
  pub complete :
      (client filter : List ℕ) (qos : QoS)
      → content client filter ≡ Some qos
      → Matches filter topic
      → Contains (clients_of_rows rows) client

-- some client has a filter that matches the topic
abbrev pub IsWanted : Content → List ℕ → Type 0
IsWanted content topic =
    (client : List ℕ) × (filter : List ℕ) × (qos : QoS) × (content client filter ≡ Some qos)
    × Matches filter topic

-- the granted rows of a topic are appended to the rows that were there
abbrev pub AppendsGranted : Content → List ℕ → List Row → List Row → Type 0
AppendsGranted content topic old new =
    (rows : List Row) × IsGranted content topic rows × (new ≡ old ++ rows)
