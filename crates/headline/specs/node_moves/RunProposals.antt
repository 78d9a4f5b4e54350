-- What a node proposes in all that it ever does: for each connection a prefix of the packets that
-- its client writes, once and in order. What it reads is in its log at once.
use Rattle.std.specs.Prelude.{◌≡◌, ◌<◌, ℕ, Bool, true, false, List, [], ◌++◌, filter}
use Rattle.packet.specs.declared.packet.Packet.{Packet}
use Rattle.broker_spec.specs.Connection.{ConnectionName}
use Rattle.broker_spec.specs.declared.command.Command.{Command}
use Rattle.ballot_base.specs.declared.config.Config.{Config}
use Rattle.lists.specs.Lists.{IsPrefixOf}
use Rattle.headline.specs.node_moves.Pipe.{Joins}
use Rattle.exactly_once.specs.StoryCommands.{is_packet_of}
use Rattle.world_base.specs.node_core.Core.{CoreState, StepOutcome, opening_core}
use Rattle.headline.specs.node_moves.Moves.NodeMove.{reads_first, reads_later}
use Rattle.headline.specs.node_moves.Moves.{NodeMove, MoveTrace}
use Rattle.headline.specs.node_moves.Moves.MoveTrace.{rests, goes_on}
use Rattle.headline.specs.node_moves.Ends.{move_proposal, came_on, IsEnd, packet_commands_from}

-- the commands that a node proposes in a run, in order
abbrev pub run_proposals : {core : CoreState} {outcome : StepOutcome} → MoveTrace core outcome →
    List Command
run_proposals rests = []
run_proposals (goes_on move run) = move_proposal move ++ run_proposals run

-- the bytes that arrive on the connection of a name in a run, in order
abbrev pub bytes_on : ConnectionName → {core : CoreState} {outcome : StepOutcome} →
    MoveTrace core outcome → List ℕ
bytes_on name rests = []
bytes_on name (goes_on move run) = came_on name move ++ bytes_on name run

-- The client of a connection writes packets, and of their bytes, joined, some came and some are
-- still to come. Then what the node proposed under the name are the commands of a prefix of those
-- packets, each once and in order.
pub record Proposes (name : ConnectionName) (core : CoreState) (proposals : List Command)
    (written : List Packet) (later : List ℕ) : Type 0 where
  pub read : List Packet
  pub end : IsEnd name core written read later
  pub prefix : IsPrefixOf read written
  pub proposed : filter (λ command. is_packet_of command name) proposals
      ≡ packet_commands_from name 0 read

-- a node proposes in order in each run from its opening on, under each name that a connection can
-- have
abbrev pub NodesProposeInOrder : Type 0
NodesProposeInOrder =
    (id : ℕ) (config : Config) (outcome : StepOutcome)
    (run : MoveTrace (opening_core id config) outcome)
    (name : ConnectionName) (written : List Packet) (later : List ℕ) → 0 < name.count →
    Joins written (bytes_on name run ++ later) →
    Proposes name outcome.core (run_proposals run) written later

-- whether a move reads a packet
abbrev pub is_read : {core : CoreState} {outcome : StepOutcome} → NodeMove core outcome → Bool
is_read (reads_first now port connection connect rest at first is room) = true
is_read (reads_later now port connection packet rest at later is room) = true
is_read _ = false

-- Each packet that is read is in the node's log at once, after everything that was there, and
-- nothing is removed from it: so none is read after one that was not taken.
abbrev pub ReadsAreTaken : Type 0
ReadsAreTaken =
    (core : CoreState) (outcome : StepOutcome) (move : NodeMove core outcome) →
    is_read move ≡ true →
    outcome.core.replica.state.log
    ≡ record core.replica.state.log { rest = core.replica.state.log.rest ++ move_proposal move }
