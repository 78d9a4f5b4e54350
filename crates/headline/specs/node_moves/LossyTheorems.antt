-- What moves do to one connection of a node when memory may run out: the same as exact ones, except
-- that it may be closed.
use Rattle.std.specs.Prelude.{◌≡◌, ◌<◌, ℕ, true, false, List, ◌++◌, length, filter, Some}
use Rattle.packet.specs.declared.packet.Packet.{Packet}
use Rattle.ballot_base.specs.declared.config.Config.{Config}
use Rattle.broker_spec.specs.Connection.{ConnectionName}
use Rattle.lists.specs.Lists.{IsPrefixOf}
use Rattle.headline.specs.node_moves.Pipe.{Joins}
use Rattle.exactly_once.specs.Sends.{sends_to}
use Rattle.exactly_once.specs.StoryCommands.{is_packet_of}
use Rattle.world_base.specs.declared.node_connections.connection.Connection.{Connection}
use Rattle.world_base.specs.node_connections.Connections.{is_closed}
use Rattle.world_base.specs.node_core.Core.{CoreState, StepOutcome, opening_core}
use Rattle.headline.specs.node_moves.Closed.{listed_named}
use Rattle.headline.specs.node_moves.Ends.{IsEnd, IsOrderly, packet_commands_from, open_named}
use Rattle.headline.specs.node_moves.RunProposals.{Proposes}
use Rattle.headline.specs.node_moves.LossyMoves.{NodeMoveOrLost}
use Rattle.headline.specs.node_moves.LossyParts.{came_on, move_effects, is_handing, is_read, move_proposal, refusal_in}
use Rattle.headline.specs.node_moves.LossyRuns.{MoveTraceOrLost, bytes_on, run_proposals}
use Rattle.headline.specs.node_moves.Puts.{outputs_of, spelled}

-- ---- what is read

-- what is newly read in a move: the next of the packets that were written, each of which is
-- proposed under the name
pub record ReadsOn (name : ConnectionName) {core : CoreState} {outcome : StepOutcome}
    (move : NodeMoveOrLost core outcome) (written read : List Packet)
    (later : List ℕ) : Type 0 where
  pub more : List Packet
  pub end : IsEnd name outcome.core written (read ++ more) later
  pub proposed : filter (λ command. is_packet_of command name) (move_proposal move)
      ≡ packet_commands_from name (length read) more

-- in each move a node reads on in order on each connection; none is skipped while it is open
abbrev pub LossesReadInOrder : Type 0
LossesReadInOrder =
    (core : CoreState) (outcome : StepOutcome) (move : NodeMoveOrLost core outcome) →
    IsOrderly core →
    IsOrderly outcome.core
    × ((name : ConnectionName) (written read : List Packet) (in_transit later : List ℕ) →
    IsEnd name core written read in_transit →
    in_transit ≡ came_on name move ++ later → ReadsOn name move written read later)

-- from the opening on the commands that are proposed under a name are those of a prefix of what is
-- written
abbrev pub LossesProposeInOrder : Type 0
LossesProposeInOrder =
    (id : ℕ) (config : Config) (outcome : StepOutcome)
    (run : MoveTraceOrLost (opening_core id config) outcome) (name : ConnectionName)
    (written : List Packet) (later : List ℕ) → 0 < name.count →
    Joins written (bytes_on name run ++ later) →
    Proposes name outcome.core (run_proposals run) written later

-- each packet that is read is in the log at once, after everything that was there
abbrev pub LossesAreTaken : Type 0
LossesAreTaken =
    (core : CoreState) (outcome : StepOutcome) (move : NodeMoveOrLost core outcome) →
    is_read move ≡ true →
    outcome.core.replica.state.log
    ≡ record core.replica.state.log { rest = core.replica.state.log.rest ++ move_proposal move }

-- ---- what is sent

-- on a connection that stays open a move queues all that the replica's outputs send to it, in
-- order, after what was queued before
abbrev pub LossesPutInOrder : Type 0
LossesPutInOrder =
    (core : CoreState) (outcome : StepOutcome) (move : NodeMoveOrLost core outcome) →
    IsOrderly core →
    is_handing move ≡ false → (name : ConnectionName) (old new : Connection) →
    open_named name core ≡ Some old → open_named name outcome.core ≡ Some new →
    new.pending ≡ old.pending ++ spelled (sends_to name (outputs_of (move_effects move)))

-- a connection that is closed after a move was closed before, with the same pending output, or was
-- open, and got a prefix of what is sent to it
pub data IsClosedBy (name : ConnectionName) {core : CoreState} {outcome : StepOutcome}
    (move : NodeMoveOrLost core outcome) (new : Connection) : Type 0 where
  -- it was closed before
  was_closed : (old : Connection) → listed_named name core ≡ Some old → is_closed old.stage ≡ true →
      new.pending ≡ old.pending → IsClosedBy name move new
  -- it was open before
  closes_now : (old : Connection) (front : List ℕ) → open_named name core ≡ Some old →
      new.pending ≡ old.pending ++ front →
      IsPrefixOf front
      (spelled (refusal_in name move ++ sends_to name (outputs_of (move_effects move)))) →
      IsClosedBy name move new

-- each connection that is closed after a move was closed in one of the ways of `IsClosedBy`
abbrev pub LossesPutNothingOnClosed : Type 0
LossesPutNothingOnClosed =
    (core : CoreState) (outcome : StepOutcome) (move : NodeMoveOrLost core outcome) →
    IsOrderly core →
    (name : ConnectionName) (new : Connection) → listed_named name outcome.core ≡ Some new →
    is_closed new.stage ≡ true → IsClosedBy name move new
