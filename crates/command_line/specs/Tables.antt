-- The table of nodes, and its TOML document.
use Rattle.std.specs.Prelude.{◌≡◌, ◌==◌, ◌&&◌, ℕ, Bool, true, not, List, [], ◌∷◌, map, nat_le, codes, pos, Some, string_bytes}
use Rattle.std.specs.List.{list_all, list_any}
use Rattle.toml.specs.Data.{Data, Members, array, integer, member, no_members, string, table}
use Rattle.toml.specs.Parse.{parse_document}
use Rattle.toml.specs.View.{items_of}
use Rattle.ballot_base.specs.LawfulConfig.{is_lawful, max_node}
use Rattle.command_line.specs.declared.node_table.ListeningNode.{ListeningNode}
use Rattle.command_line.specs.declared.node_table.NodeTable.{NodeTable}

-- a number as a value of TOML
abbrev pub number_value : ℕ → Data
number_value number = integer (pos number)

-- a list of values, each written by `says`
abbrev pub list_data : {X : Type 0} → (X → Data) → List X → Data
list_data says xs = array (items_of (map says xs))

-- `id = 1` and `listen = "127.0.0.1:1883"`, in the order of their keys
abbrev pub node_data : ListeningNode → Data
node_data node = table (member (codes "id") (number_value node.id)
    (member (codes "listen") (string (string_bytes node.listen)) no_members))

-- `members = [1]`, a table `[[node]]` for each node, and `primary = 1`, in the order of their keys
abbrev pub document_of : NodeTable → Members
document_of node_table = member (codes "members") (list_data number_value node_table.config.members)
    (member (codes "node") (list_data node_data node_table.nodes.items)
    (member (codes "primary") (number_value node_table.config.primary) no_members))

-- one of the nodes has this number
abbrev pub has_node : List ListeningNode → ℕ → Bool
has_node nodes id = list_any (λ (node : ListeningNode). node.id == id) nodes

-- each number is from 1 to the greatest of a node, and none occurs twice
abbrev pub are_told_apart : List ListeningNode → Bool
are_told_apart [] = true
are_told_apart (node ∷ nodes) = (nat_le 1 node.id && nat_le node.id max_node)
    && (not (has_node nodes node.id) && are_told_apart nodes)

-- the nodes can be told apart, and the members of ballot 1 are among them
abbrev pub is_lawful_table : NodeTable → Bool
is_lawful_table node_table = are_told_apart node_table.nodes.items
    && (list_all (has_node node_table.nodes.items) node_table.config.members
    && is_lawful max_node node_table.config.members node_table.config.primary)

-- the text is a TOML document with this table and no more
abbrev pub IsTableText : List ℕ → NodeTable → Type 0
IsTableText text node_table =
    (parse_document text ≡ Some (document_of node_table)) × (is_lawful_table node_table ≡ true)
