-- The parts of a move with losses: effects, proposal, bytes that arrive, packets read, inputs
-- received.
use Rattle.std.specs.Prelude.{ℕ, Bool, true, false, List, [], ◌∷◌}
use Rattle.packet.specs.declared.packet.Packet.{Packet}
use Rattle.packet.specs.declared.connect.Connect.{Connect}
use Rattle.ballot_base.specs.declared.message.Effect.{Effect}
use Rattle.ballot_base.specs.Protocol.{Input}
use Rattle.broker_spec.specs.declared.command.Command.{Command}
use Rattle.broker_spec.specs.declared.command.Command.TheVariants as commands
use Rattle.broker_spec.specs.Connection.{ConnectionName}
use Rattle.broker_spec.specs.declared.command.Output.{Output}
use Rattle.world_base.specs.node_core.Core.{CoreState, StepOutcome}
use Rattle.world_base.specs.node_core.PacketInput.{open_at}
use Rattle.headline.specs.node_moves.Closed.{exact_refusal}
use Rattle.headline.specs.node_moves.Ends.{came_on as exact_came, piece_on, move_proposal as exact_proposal}
use Rattle.headline.specs.node_moves.RunProposals.{is_read as exact_read}
use Rattle.headline.specs.node_moves.BallotNames.{moves_replica}
use Rattle.headline.specs.node_moves.Moves.{NodeMove}
use Rattle.headline.specs.node_moves.Moves.NodeMove.{hears}
use Rattle.headline.specs.node_moves.Puts.{move_effects as exact_given, is_handing as exact_handing}
use Rattle.headline.specs.node_moves.LossyMoves.{NodeMoveOrLost}
use Rattle.headline.specs.node_moves.LossyMoves.NodeMoveOrLost.{exactly, hears_losing, first_losing, later_losing, tells_losing, expels_losing, forgets, halts, fails, unheard, drops}

-- the effects of its replica in a move
abbrev pub move_effects : {core : CoreState} {outcome : StepOutcome} → NodeMoveOrLost core outcome →
    List (Effect Command Output)
move_effects (exactly move) = exact_given move
move_effects (hears_losing input account other drives) = account.given
move_effects (first_losing now port connection connect rest account at first is taken) =
    account.given
move_effects (later_losing now port connection packet rest account at later is taken) =
    account.given
move_effects (tells_losing name account taken) = account.given
move_effects (expels_losing client account taken) = account.given
move_effects forgets = []
move_effects halts = []
move_effects (fails port) = []
move_effects unheard = []
move_effects (drops port piece) = []

-- the command that it proposes
abbrev pub move_proposal : {core : CoreState} {outcome : StepOutcome} →
    NodeMoveOrLost core outcome →
    List Command
move_proposal (exactly move) = exact_proposal move
move_proposal (hears_losing input account other drives) = []
move_proposal (first_losing now port connection connect rest account at first is taken) =
    commands.Connect connection.name connect.client connect.clean ∷ []
move_proposal (later_losing now port connection packet rest account at later is taken) =
    commands.Packet connection.name packet ∷ []
move_proposal (tells_losing name account taken) = commands.Lost name ∷ []
move_proposal (expels_losing client account taken) = commands.Expel client ∷ []
move_proposal forgets = []
move_proposal halts = []
move_proposal (fails port) = []
move_proposal unheard = []
move_proposal (drops port piece) = []

-- the bytes that come on the connection of a name
abbrev pub came_on : ConnectionName → {core : CoreState} {outcome : StepOutcome} →
    NodeMoveOrLost core outcome →
    List ℕ
came_on name (exactly move) = exact_came name move
came_on name {core = core} (drops port piece) = piece_on name piece (open_at port core)
came_on name _ = []

-- the answer to a CONNECT that the node refuses itself
abbrev pub refusal_in : ConnectionName → {core : CoreState} {outcome : StepOutcome} →
    NodeMoveOrLost core outcome →
    List Packet
refusal_in name (exactly move) = exact_refusal name move
refusal_in name _ = []

-- whether bytes are handed over in a move
abbrev pub is_handing : {core : CoreState} {outcome : StepOutcome} → NodeMoveOrLost core outcome →
    Bool
is_handing (exactly move) = exact_handing move
is_handing _ = false

-- whether a packet is read in a move
abbrev pub is_read : {core : CoreState} {outcome : StepOutcome} → NodeMoveOrLost core outcome → Bool
is_read (exactly move) = exact_read move
is_read (first_losing now port connection connect rest account at first is taken) = true
is_read (later_losing now port connection packet rest account at later is taken) = true
is_read _ = false

-- what the replica receives in a move
abbrev pub inputs_of : {core : CoreState} {outcome : StepOutcome} → NodeMove core outcome →
    List (Input Command)
inputs_of (hears input other) = input ∷ []
inputs_of _ = []

-- what the replica receives in a move that may have losses
abbrev pub inputs_in : {core : CoreState} {outcome : StepOutcome} → NodeMoveOrLost core outcome →
    List (Input Command)
inputs_in (exactly move) = inputs_of move
inputs_in (hears_losing input account other drives) = input ∷ []
inputs_in _ = []

-- whether the replica receives something in a move, or the node crashes
abbrev pub hears_in : {core : CoreState} {outcome : StepOutcome} → NodeMoveOrLost core outcome →
    Bool
hears_in (exactly move) = moves_replica move
hears_in (hears_losing input account other drives) = true
hears_in _ = false
