-- What the nodes of a world do may happen in a group, and so they agree.
use Rattle.std.specs.Prelude.{◌≡◌, ◌⊎◌, ◌<◌, ◌≤◌, ℕ, List, ◌∷◌}
use Rattle.lists.specs.Lists.{IsPrefixOf}
use Rattle.ballot_base.specs.Losses.{greatest_count, one_more}
use Rattle.ballot_base.specs.declared.config.Config.{Config}
use Rattle.agreement.specs.cut_logs.AgreedLists.{Agrees, Holds, LeftInOrder}
use Rattle.agreement.specs.cut_logs.Moments.{IsAgreed}
use Rattle.broker_spec.specs.declared.command.Command.{Command}
use Rattle.world_base.specs.node_core.Core.{rules}
use Rattle.headline.specs.node_group.Group.{Group, moment_of_nodes}
use Rattle.headline.specs.node_group.Steps.{GroupTrace, all_proposed, groups_on_trace}
use Rattle.headline.specs.node_group.Order.{KeepsOrder}
use Rattle.world_nodes.specs.Nodes.{NodesState, NodesStandFor}
use Rattle.world.specs.World.{WorldState}
use Rattle.world_pipes.specs.clients.NodesGoOn.{NodesGo}

-- ---- worlds

-- the count is exact as long as it is below its greatest number
abbrev pub WorldLosesNothing : WorldState → WorldState → Type 0
WorldLosesNothing old new = (new.losses ≡ old.losses) × (old.losses < greatest_count)

-- the count rises by one, or not at all
abbrev pub CountsOnce : WorldState → WorldState → Type 0
CountsOnce old new = (new.losses ≡ old.losses) ⊎ (new.losses ≡ one_more old.losses)

-- a world's count of losses never falls, and its nodes move as a group
pub record KeepsGroup (old new : WorldState) : Type 0 where
  pub rises : old.losses ≤ new.losses
  pub goes : NodesGo old.nodes new.nodes

-- ---- agreement

-- The nodes are those of a group that moved from its opening with this many nodes, in this
-- configuration. There is an agreed list. The nodes agree on it and hold it, and the outputs of
-- their replicas are its answers in order. For each connection it has, as each log has, a prefix of
-- the packets that nodes proposed for it, in order.
pub record AreReached (nodes : ℕ) (config : Config) (new : NodesState) : Type 0 where
  pub group : Group
  pub went : GroupTrace nodes config group
  pub stands : NodesStandFor group new
  pub order : KeepsOrder config group (groups_on_trace went) (all_proposed went)
  pub list : List Command
  pub agreed : IsAgreed config (moment_of_nodes group ∷ order.of.earlier) list
  pub agrees : Agrees rules (moment_of_nodes group).master (moment_of_nodes group).world list
  pub holds : Holds (moment_of_nodes group).master (moment_of_nodes group).world list
  pub leaves : LeftInOrder rules (moment_of_nodes group ∷ order.of.earlier)
      (moment_of_nodes group).world list

-- nodes that can be reached can still be reached after it
abbrev pub StaysReached : NodesState → NodesState → Type 0
StaysReached old new =
    (nodes : ℕ) (config : Config) → AreReached nodes config old → AreReached nodes config new

-- the list on which nodes agreed before is a prefix of the list on which they agree then
abbrev pub AgreedListGrows : NodesState → NodesState → Type 0
AgreedListGrows old new =
    (nodes : ℕ) (config : Config) (before : AreReached nodes config old) →
    (after : AreReached nodes config new) × IsPrefixOf before.list after.list
