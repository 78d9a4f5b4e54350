-- The list on which nodes agree.
use Rattle.std.specs.Prelude.{◌≡◌, ℕ, List, ◌∷◌, length}
use Rattle.ballot_base.specs.declared.config.Config.{Config}
use Rattle.agreement.specs.cut_logs.Moments.{IsAgreed, Moment, Moments}
use Rattle.broker_spec.specs.declared.command.Command.{Command}
use Rattle.broker_spec.specs.declared.command.Output.{Output}
use Rattle.broker_base.specs.State.{State}
use Rattle.world_base.specs.node_core.Core.{rules}
use Rattle.headline.specs.node_group.Group.{Group, moment_of_nodes}
use Rattle.world_nodes.specs.Nodes.{NodesState, NodesStandFor}

-- in every history of a group that corresponds to the nodes, this is the agreed list
abbrev pub AgreeOn : NodesState → List Command → Type 0
AgreeOn state list =
    (config : Config) (group : Group) (earlier : List (Moment State Command Output)) →
    NodesStandFor group state →
    Moments rules config (moment_of_nodes group ∷ earlier) →
    IsAgreed config (moment_of_nodes group ∷ earlier) list

-- the list on which the nodes agree has this many commands
abbrev pub AgreeOnSoMany : NodesState → ℕ → Type 0
AgreeOnSoMany state count =
    (config : Config) (group : Group) (earlier : List (Moment State Command Output)) →
    NodesStandFor group state →
    Moments rules config (moment_of_nodes group ∷ earlier) →
    (list : List Command) → IsAgreed config (moment_of_nodes group ∷ earlier) list →
    count ≡ length list
