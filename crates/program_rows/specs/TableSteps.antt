-- What a table of nodes is read as.
use Rattle.std.specs.Prelude.{◌≡◌, ℕ, zero, suc, List, [], ◌∷◌, ◌++◌, codes, string_bytes}
use Rattle.std.specs.List.{flat_map}
use Rattle.std.specs.Fmt.{decimal}
use Rattle.rows.specs.Fields.{Text}
use Rattle.command_line.specs.Refusals.{table_number}
use Rattle.command_line.specs.Tables.{IsTableText}
use Rattle.command_line.specs.declared.fault.TableFault.TheVariants as faults
use Rattle.command_line.specs.declared.node_table.ListeningNode.{ListeningNode}
use Rattle.command_line.specs.declared.node_table.NodeTable.{NodeTable}
use Rattle.program_rows.specs.AnswerFields.{counted, number_fields, numbers_fields}

-- `node 1 "h:1"`
abbrev pub node_fields : ListeningNode → List Text
node_fields node = codes "node" ∷ decimal node.id ∷ string_bytes node.listen ∷ []

-- `member 1 member 2 primary 1 node 1 "h:1" node 2 "h:2"`
abbrev pub table_fields : NodeTable → List Text
table_fields table = numbers_fields (codes "member") table.config.members
    ++ number_fields (codes "primary") table.config.primary
    ++ flat_map node_fields table.nodes.items

-- a text, and what it is read as
pub data TableAnswer : Text → List Text → Type 0 where
  -- a table
  read : {text : Text} {answer : List Text} (table : NodeTable) → IsTableText text table
      → answer ≡ table_fields table → TableAnswer text answer
  -- no table
  refused : {text : Text} {answer : List Text}
      → ((table : NodeTable) → IsTableText text table → ⊥)
      → answer ≡ counted (codes "refused") (table_number faults.Shape) → TableAnswer text answer

-- a node of a table, which listens on `h:1`
abbrev pub node_text : ℕ → Text
node_text id = codes "[[node]]\nid = " ++ (decimal id ++ codes "\nlisten = \"h:1\"\n")

-- so many nodes, numbered from 1
abbrev pub nodes_text : ℕ → Text
nodes_text zero = []
nodes_text (suc count) = nodes_text count ++ node_text (suc count)
