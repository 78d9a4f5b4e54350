-- The steps of a group's replicas go through moments for which agreement is proved.
use Rattle.std.specs.Prelude.{◌≡◌, ℕ, List, ◌∷◌, filter}
use Rattle.lists.specs.Lists.{Each, In}
use Rattle.ballot_base.specs.declared.config.Config.{Config}
use Rattle.broker_base.specs.State.{State}
use Rattle.broker_spec.specs.declared.command.Command.{Command}
use Rattle.broker_spec.specs.declared.command.Output.{Output}
use Rattle.broker_spec.specs.Connection.{ConnectionName}
use Rattle.exactly_once.specs.StoryCommands.{is_packet_of}
use Rattle.agreement.specs.cut_logs.Moments.{Moment, Moments}
use Rattle.agreement.specs.cut_logs.Proposals.{proposals_of, taken_of}
use Rattle.world_base.specs.node_core.Core.{rules}
use Rattle.headline.specs.node_group.Group.{Group, moment_of_nodes}
use Rattle.headline.specs.node_group.Steps.{GroupTrace, all_proposed, groups_on_trace}

-- the packets of a connection among commands, each with a ballot
abbrev pub packets_in : ConnectionName → List (ℕ × Command) → List (ℕ × Command)
packets_in connection rows = filter (λ (row : ℕ × Command). is_packet_of row.1 connection) rows

-- Moments whose last is that of the group's replicas. In it these commands were proposed, the
-- packets of all connections among them were taken, and each of these earlier groups has its
-- moment.
pub record HasMoments (config : Config) (group : Group) (groups : List Group)
    (put : List (ℕ × Command)) : Type 0 where
  pub earlier : List (Moment State Command Output)
  pub moments : Moments rules config (moment_of_nodes group ∷ earlier)
  pub proposed : proposals_of moments ≡ put
  pub taken : (connection : ConnectionName) →
      packets_in connection (taken_of moments) ≡ packets_in connection put
  pub seen : Each
      (λ (other : Group). In (moment_of_nodes other) (moment_of_nodes group ∷ earlier)) groups

-- each run of a group has moments (`HasMoments`)
abbrev pub GroupsHaveMoments : Type 0
GroupsHaveMoments =
    (nodes : ℕ) (config : Config) (group : Group) (went : GroupTrace nodes config group) →
    HasMoments config group (groups_on_trace went) (all_proposed went)
