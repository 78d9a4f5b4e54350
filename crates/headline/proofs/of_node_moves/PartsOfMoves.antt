-- The part of a call of a node that concerns others: a message that is received, bytes that come
-- in, bytes that are handed over. And whether its log is cut.
use Rattle.std.proofs.Common.{◌≡◌, false, if◌then◌else◌, ℕ, List}
use Rattle.ballot_base.specs.Compaction.{can_cut}
use Rattle.ballot_base.specs.declared.message.Message.{Message}
use Rattle.ballot_base.specs.Protocol.Input.{Receives}
use Rattle.broker_spec.specs.declared.command.Command.{Command}
use Rattle.world_base.specs.declared.node_connections.port.Port.{Port}
use Rattle.world_base.specs.declared.node_core.item.Item.TheVariants.{Peer, Bytes, Cut}
use Rattle.world_base.specs.node_core.Core.{CoreState, StepOutcome}
use Rattle.headline.specs.node_moves.Receipts.{HearsAtFirst, IsCalm}
use Rattle.headline.specs.node_moves.BallotNames.{moves_replica}
use Rattle.headline.specs.node_moves.Moves.{NodeCall, NodeMove, MoveTrace}
use Rattle.headline.specs.node_moves.Moves.NodeCall.{takes, hands_out}
use Rattle.headline.specs.node_moves.Moves.NodeMove.{hears, holds, cuts_log, hands}
use Rattle.headline.specs.node_moves.Moves.MoveTrace.{rests, goes_on}

pub data Part : Type 0 where
  nothing : Part
  heard : Message Command → Part
  bytes_in : Port → List ℕ → Part
  bytes_out : Port → Part
  cut : Part

abbrev pub part_in : {core : CoreState} {outcome : StepOutcome} → NodeMove core outcome → Part
part_in (hears (Receives message) is) = Part.heard message
part_in (holds port piece) = Part.bytes_in port piece
part_in (hands port) = Part.bytes_out port
part_in (cuts_log can) = Part.cut
part_in _ = Part.nothing

abbrev pub part_of : NodeCall → CoreState → Part
part_of (takes (Peer message)) core = Part.heard message
part_of (takes (Bytes port piece now)) core = Part.bytes_in port piece
part_of (takes Cut) core = if can_cut core.replica.state then Part.cut else Part.nothing
part_of (hands_out port) core = Part.bytes_out port
part_of _ core = Part.nothing

-- a move in which the replica receives nothing and does not stop, and no bytes are carried
abbrev pub IsBareMove : {core : CoreState} {outcome : StepOutcome} → NodeMove core outcome → Type 0
IsBareMove m = (moves_replica m ≡ false) × (part_in m ≡ Part.nothing)

abbrev pub IsBare : {core : CoreState} {outcome : StepOutcome} → MoveTrace core outcome → Type 0
IsBare rests = Unit {0}
IsBare (goes_on m run) = IsBareMove m × IsBare run

-- all but the first move are bare, and that one has this part
abbrev pub BeginsWith : Part → {core : CoreState} {outcome : StepOutcome} → MoveTrace core outcome → Type 0
BeginsWith part rests = Part.nothing ≡ part
BeginsWith part (goes_on m run) = (part_in m ≡ part) × IsBare run

bare_is_calm : {core : CoreState} {outcome : StepOutcome} (run : MoveTrace core outcome) → IsBare run → IsCalm run
bare_is_calm rests bare = tt
bare_is_calm (goes_on m run) bare = (bare.0.0, bare_is_calm run bare.1)

pub begins_hearing : (part : Part) {core : CoreState} {outcome : StepOutcome} (run : MoveTrace core outcome) → BeginsWith part run → HearsAtFirst run
begins_hearing part rests begins = tt
begins_hearing part (goes_on m run) begins = bare_is_calm run begins.1
