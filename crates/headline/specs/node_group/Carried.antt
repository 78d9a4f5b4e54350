-- What the nodes of a group do with a connection's bytes, by the list of commands on which they
-- agree.
use Rattle.std.specs.Prelude.{ℕ, List, ◌∷◌, ◌++◌}
use Rattle.packet.specs.declared.packet.Packet.{Packet}
use Rattle.ballot_base.specs.declared.config.Config.{Config}
use Rattle.broker_spec.specs.declared.command.Command.{Command}
use Rattle.broker_spec.specs.Commands.{past_of, usual_limits}
use Rattle.broker_spec.specs.Connection.{ConnectionName}
use Rattle.lists.specs.Lists.{IsPrefixOf}
use Rattle.headline.specs.node_moves.Pipe.{Joins}
use Rattle.exactly_once.specs.Sends.{put_to}
use Rattle.agreement.specs.cut_logs.Moments.{IsAgreed}
use Rattle.headline.specs.node_moves.Ends.{packet_commands_from}
use Rattle.headline.specs.node_moves.Puts.{spelled}
use Rattle.headline.specs.node_group.Group.{Group, moment_of_nodes}
use Rattle.headline.specs.node_group.Steps.{GroupTrace, all_proposed, groups_on_trace}
use Rattle.headline.specs.node_group.Order.{packet_commands}
use Rattle.headline.specs.node_group.GroupMoments.{HasMoments}
use Rattle.headline.specs.node_group.Streams.{came_up, went_down}

-- the answers to a list of commands that name a connection, encoded
abbrev pub answers_to : ConnectionName → List Command → List ℕ
answers_to connection agreed =
    spelled (put_to usual_limits (past_of usual_limits agreed) connection)

-- A connection's commands in the list are a prefix of the packets that were written on it, in
-- order. What went down on it is a prefix of the encoded answers that name it.
pub record IsCarried (connection : ConnectionName) (written : List Packet) (handed : List ℕ)
    (agreed : List Command) : Type 0 where
  pub up : IsPrefixOf (packet_commands connection agreed)
      (packet_commands_from connection 0 written)
  pub down : IsPrefixOf handed (answers_to connection agreed)

-- Each list on which the nodes agree carries each connection on which packets are written, when a
-- prefix of their bytes arrived on it.
pub record Carries {nodes : ℕ} {config : Config} {group : Group}
    (went : GroupTrace nodes config group) : Type 0 where
  pub of : HasMoments config group (groups_on_trace went) (all_proposed went)
  pub each : (agreed : List Command) → IsAgreed config (moment_of_nodes group ∷ of.earlier) agreed →
      (connection : ConnectionName) → (written : List Packet) (later : List ℕ) →
      Joins written (came_up connection went ++ later) →
      IsCarried connection written (went_down connection went) agreed

-- in each run of a group the agreed lists carry its connections (`Carries`)
abbrev pub GroupsCarryInOrder : Type 0
GroupsCarryInOrder =
    (nodes : ℕ) (config : Config) (group : Group) (went : GroupTrace nodes config group) →
    Carries went
