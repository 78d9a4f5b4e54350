-- The numbers of a program's nodes, and how they open.
use Rattle.std.specs.Prelude.{◌≡◌, ◌==◌, ℕ, Bool, false, if◌then◌else◌, List, map}
use Rattle.std.specs.List.{list_all, list_any}
use Rattle.ballot_base.specs.Replica.{status_of}
use Rattle.ballot_base.specs.declared.config.Config.{Config}
use Rattle.ballot_base.specs.declared.status.Role.TheVariants.{Active, Backup}
use Rattle.ballot_base.specs.declared.status.Status.{Status}
use Rattle.lists.specs.Lists.{has_id}
use Rattle.world_base.specs.node_core.Core.{opening_core}

-- a node as the other nodes see it: all but its number is under locks
pub record PeerView : Type 0 where
  pub number : ℕ

-- the number of each node, in the order of the table
abbrev pub peer_numbers : List PeerView → List ℕ
peer_numbers = map (λ (peer : PeerView). peer.number)

-- whether one of the nodes with these numbers has this one
abbrev pub is_node : List ℕ → ℕ → Bool
is_node nodes number = has_id number nodes

-- whether each of these is the number of a node
abbrev pub are_nodes : List ℕ → List ℕ → Bool
are_nodes nodes = list_all (is_node nodes)

-- the status of the node of a number as it opens in ballot 1 of a configuration
abbrev pub opening_status : ℕ → Config → Status
opening_status number config =
    record {
      ballot = if list_any (λ member. member == number) config.members then 1 else 0;
      role = if number == config.primary then Active else Backup;
      held = 0;
      committed = 0;
      stopped = false;
    }

-- That is what a node shows that has just opened.
abbrev pub NodesShowHowTheyOpen : Type 0
NodesShowHowTheyOpen = (number : ℕ) (config : Config)
    → status_of (opening_core number config).replica.state ≡ opening_status number config
