-- What the slab of nodes shows from its root.
use Rattle.std.specs.Prelude.{◌≡◌, ℕ, List, Option, Some, option_map}
use Rattle.topics.specs.Text.{Levels, levels}
use Rattle.packet_base.specs.declared.qos.QoS.{QoS}
use Rattle.subs_base.specs.Content.{Content}
use Rattle.subs.specs.declared.nodes.Nodes.{Nodes}
use Rattle.subs.specs.Shape.{Shape, rows}
use Rattle.subs.specs.Ways.{led, IsTree}
use Rattle.subs.specs.Inside.{shape_of}

-- the children and rows of each node, and which numbers are in use
abbrev pub shape : Nodes → Shape
shape nodes = shape_of nodes.slab

-- the number of the root, if there is one
abbrev pub root_of : Nodes → Option ℕ
root_of nodes = option_map (λ id. id.number) nodes.root

-- the QoS of each client at the levels of each filter
abbrev pub rows_at_levels : Nodes → Levels → List ℕ → Option QoS
rows_at_levels nodes = rows (shape nodes) (root_of nodes)

-- the nodes form a tree
abbrev pub IsSoundTree : Nodes → Type 0
IsSoundTree nodes = IsTree (shape nodes).child (shape nodes).used (root_of nodes)

-- these levels lead to the node
abbrev pub LeadsTo : Nodes → Levels → ℕ → Type 0
LeadsTo nodes path at = led (shape nodes).child (root_of nodes) path ≡ Some at

-- some levels lead to the node
abbrev pub IsThere : Nodes → ℕ → Type 0
IsThere nodes at = (path : Levels) × LeadsTo nodes path at

-- the content of the tree: for each client and filter the QoS at the levels of its text
abbrev pub content_of_nodes : Nodes → Content
content_of_nodes nodes client filter = rows_at_levels nodes (levels filter) client
