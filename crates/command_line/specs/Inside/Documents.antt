-- What the functions that read a TOML document ensure.
use Rattle.std.specs.Prelude.{◌≡◌, ℕ, Bool, true, List, nat_le}
use Rattle.std.specs.List.{list_all}
use Rattle.ballot_base.specs.LawfulConfig.{max_node}
use Rattle.ballot_base.specs.declared.config.Config.{Config}
use Rattle.command_line.specs.declared.node_table.ListeningNode.{ListeningNode}
use Rattle.command_line.specs.declared.node_table.NodeTable.{NodeTable}

-- whether a number is at most the greatest of a node
abbrev pub is_at_most_max_node : ℕ → Bool
is_at_most_max_node number = nat_le number max_node

-- whether a node's number is at most the greatest of a node
abbrev pub has_id_at_most_max_node : ListeningNode → Bool
has_id_at_most_max_node node = is_at_most_max_node node.id

-- no number of a table is above the greatest of a node
pub record NumbersAreAtMostMaxNode (table : NodeTable) : Type 0 where
  pub members : list_all is_at_most_max_node table.config.members ≡ true
  pub primary : is_at_most_max_node table.config.primary ≡ true
  pub nodes : list_all has_id_at_most_max_node table.nodes.items ≡ true
