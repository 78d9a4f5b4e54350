-- What a node and the slab of nodes show.
use Rattle.std.specs.Prelude.{◌≡◌, ℕ, Bool, true, false, is_some, List, bytes_eq, codes, ◌&&◌}
use Rattle.std.specs.Prelude.{Option, None, option_map, option_and_then, if◌then◌else◌, [], ◌∷◌}
use Rattle.std.specs.BTreeMap.{get_by}
use Rattle.std.specs.Cmp.Lexicographic.{slice_cmp}
use Rattle.std.specs.Ordering.{nat_cmp}
use Rattle.slab.specs.Slab as slab
use Rattle.topics.specs.Text.{Levels}
use Rattle.packet_base.specs.declared.qos.QoS.{QoS}
use Rattle.subs_base.specs.Content.{Content}
use Rattle.subs_base.specs.ListIndex.{Filters, at}
use Rattle.subs.specs.declared.node.Node.{Node}
use Rattle.subs.specs.Rows.{qos_of_client}
use Rattle.subs.specs.Shape.{Shape}

-- the rows of a node, in `here` or `rest`
abbrev pub clients_at : Node → Bool → List ℕ → Option QoS
clients_at node true client = qos_of_client node.rest client
clients_at node false client = qos_of_client node.here client

-- the children of a node, `+` and the others
abbrev pub child_in : Node → List ℕ → Option ℕ
child_in node level =
    option_map (λ id. id.number)
    (if bytes_eq level (codes "+") then node.plus
    else get_by (λ key. slice_cmp nat_cmp level key.items) node.named)

-- the nodes of the slab
abbrev pub shape_of : slab.Slab Node → Shape
shape_of nodes =
    record {
      child = λ at level. option_and_then (λ node. child_in node level) (slab.get nodes at);
      asked =
          λ at rest client. option_and_then (λ node. clients_at node rest client)
          (slab.get nodes at);
      used = λ at. is_some (slab.get nodes at);
    }

-- for the levels of a filter and a client the QoS of that subscription
abbrev pub Asked : Type 0
Asked = Levels → List ℕ → Option QoS

-- no subscription at all
abbrev pub no_filter_asked : Asked
no_filter_asked filter client = None

-- whether two lists of levels are equal
abbrev pub same_levels : Levels → Levels → Bool
same_levels [] [] = true
same_levels [] (level ∷ rest) = false
same_levels (part ∷ parts) [] = false
same_levels (part ∷ parts) (level ∷ rest) = bytes_eq part level && same_levels parts rest

-- one subscription is set or removed
abbrev pub asked_with : Asked → Levels → List ℕ → Option QoS → Asked
asked_with before filter client kept other_filter other_client =
    if same_levels filter other_filter && bytes_eq client other_client then kept
    else before other_filter other_client

-- the rows of one filter are replaced
abbrev pub with_rows : Asked → Levels → (List ℕ → Option QoS) → Asked
with_rows before filter kept other_filter client =
    if same_levels filter other_filter then kept client else before other_filter client

-- the client's subscriptions of these filters are removed
abbrev pub cleared : List ℕ → Filters → Content → Content
cleared client filters before other_client filter =
    if bytes_eq client other_client && is_some (at filter filters) then None
    else before other_client filter

-- the node has no row and no child
pub record HoldsNothing (node : Node) : Type 0 where
  pub child : (level : List ℕ) → child_in node level ≡ None
  pub asked : (rest : Bool) (client : List ℕ) → clients_at node rest client ≡ None
