-- In which order the packets of a connection are in the logs of a group and in the agreed list.
use Rattle.std.specs.Prelude.{◌≡◌, ℕ, List, ◌∷◌, filter, slice_get, Some}
use Rattle.lists.specs.Lists.{IsPrefixOf}
use Rattle.ballot_base.specs.declared.config.Config.{Config}
use Rattle.broker_spec.specs.declared.command.Command.{Command}
use Rattle.broker_spec.specs.Connection.{ConnectionName}
use Rattle.exactly_once.specs.StoryCommands.{is_packet_of}
use Rattle.agreement.specs.cut_logs.Moments.{IsAgreed}
use Rattle.agreement.specs.cut_logs.Whole.{whole_log}
use Rattle.agreement.specs.Proposals.{commands_of}
use Rattle.world_base.specs.node_core.Core.{CoreState}
use Rattle.headline.specs.node_group.Group.{Group, moment_of_nodes, replica_of}
use Rattle.headline.specs.node_group.Steps.{GroupTrace, all_proposed, groups_on_trace}
use Rattle.headline.specs.node_group.GroupMoments.{HasMoments}

-- the packets of a connection among commands
abbrev pub packet_commands : ConnectionName → List Command → List Command
packet_commands connection commands =
    filter (λ (command : Command). is_packet_of command connection) commands

-- the whole log of each node, and the agreed list, has of each connection a prefix of the packets
-- that were proposed for it, in order
pub record KeepsOrder (config : Config) (group : Group) (groups : List Group)
    (put : List (ℕ × Command)) : Type 0 where
  pub of : HasMoments config group groups put
  pub logs : (connection : ConnectionName) (node : ℕ) (core : CoreState) →
      slice_get group.nodes node ≡ Some core →
      IsPrefixOf (packet_commands connection (whole_log group.archive (replica_of core).log))
      (packet_commands connection (commands_of put))
  pub agreed : (connection : ConnectionName) (list : List Command) →
      IsAgreed config (moment_of_nodes group ∷ of.earlier) list →
      IsPrefixOf (packet_commands connection list) (packet_commands connection (commands_of put))

-- each run of a group keeps the order of each connection's packets
abbrev pub GroupsKeepTheOrder : Type 0
GroupsKeepTheOrder =
    (nodes : ℕ) (config : Config) (group : Group) (went : GroupTrace nodes config group) →
    KeepsOrder config group (groups_on_trace went) (all_proposed went)
