-- That a node reads what a client wrote in order, move by move.
use Rattle.std.specs.Prelude.{◌≡◌, ℕ, List, ◌++◌, length, filter}
use Rattle.packet.specs.declared.packet.Packet.{Packet}
use Rattle.broker_spec.specs.Connection.{ConnectionName}
use Rattle.exactly_once.specs.StoryCommands.{is_packet_of}
use Rattle.world_base.specs.node_core.Core.{CoreState, StepOutcome}
use Rattle.headline.specs.node_moves.Moves.{NodeMove}
use Rattle.headline.specs.node_moves.Ends.{IsOrderly, move_proposal, came_on, IsEnd, packet_commands_from}

-- In a move the next written packets are read. Each is proposed under the name, and nothing else.
pub record ReadsOn (name : ConnectionName) {core : CoreState} {outcome : StepOutcome}
    (move : NodeMove core outcome) (written read : List Packet) (later : List ℕ) : Type 0 where
  pub more : List Packet
  pub end : IsEnd name outcome.core written (read ++ more) later
  pub proposed : filter (λ command. is_packet_of command name) (move_proposal move)
      ≡ packet_commands_from name (length read) more

-- in each move a node reads on in order on each connection, and its connections stay in order
abbrev pub NodesReadInOrder : Type 0
NodesReadInOrder =
    (core : CoreState) (outcome : StepOutcome) (move : NodeMove core outcome) → IsOrderly core →
    IsOrderly outcome.core
    × ((name : ConnectionName) (written read : List Packet) (in_transit later : List ℕ) →
    IsEnd name core written read in_transit →
    in_transit ≡ came_on name move ++ later → ReadsOn name move written read later)
