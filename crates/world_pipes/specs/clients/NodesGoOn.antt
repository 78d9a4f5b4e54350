-- What nodes do is a run of a group's steps.
use Rattle.std.specs.Prelude.{◌≤◌}
use Rattle.headline.specs.node_group.Group.{Group}
use Rattle.headline.specs.node_group.Steps.{GroupStep}
use Rattle.world_nodes.specs.Nodes.{NodesState, NodesStandFor}

-- steps of a group, one after another
pub data StepsOfGroup (first : Group) : Group → Type 0 where
  -- no step
  rests : StepsOfGroup first first
  -- one more step
  goes_on : {next last : Group} → StepsOfGroup first next → GroupStep next last →
      StepsOfGroup first last

-- a group moves by steps, and then corresponds to these nodes
pub record GroupStepsTo (group : Group) (new : NodesState) : Type 0 where
  pub after : Group
  pub goes : StepsOfGroup group after
  pub stands : NodesStandFor after new

-- each group that corresponds to the nodes before moves, and corresponds to the nodes after
abbrev pub NodesGo : NodesState → NodesState → Type 0
NodesGo old new = (group : Group) → NodesStandFor group old → GroupStepsTo group new

-- the count of the nodes' losses never falls, and each group that corresponds to them moves
pub record NodesGoOn (old new : NodesState) : Type 0 where
  pub rises : old.losses ≤ new.losses
  pub goes : NodesGo old new

-- each group that corresponds to the nodes before still corresponds to them
abbrev pub NodesStay : NodesState → NodesState → Type 0
NodesStay old new = (group : Group) → NodesStandFor group old → NodesStandFor group new
