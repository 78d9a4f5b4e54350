-- What a node queues on a connection in a move.
use Rattle.std.specs.Prelude.{◌≡◌, ℕ, Bool, true, false, if◌then◌else◌, List, [], ◌∷◌, ◌++◌, Some}
use Rattle.packet.specs.declared.packet.Packet.{Packet}
use Rattle.packet.specs.Spelling.{spelling}
use Rattle.ballot_base.specs.declared.message.Effect.{Effect}
use Rattle.ballot_base.specs.declared.message.Effect.TheVariants.{To, Out}
use Rattle.ballot_base.specs.Service.{proposed}
use Rattle.broker_spec.specs.declared.command.Command.{Command}
use Rattle.broker_spec.specs.declared.command.Command.TheVariants as commands
use Rattle.broker_spec.specs.declared.command.Output.{Output}
use Rattle.broker_spec.specs.Connection.{ConnectionName}
use Rattle.exactly_once.specs.Sends.{sends_to}
use Rattle.world_base.specs.declared.node_connections.connection.Connection.{Connection}
use Rattle.world_base.specs.node_core.Core.{CoreState, StepOutcome, rules, serves}
use Rattle.world_base.specs.node_core.Effects.{outcome_of_input}
use Rattle.headline.specs.node_moves.Moves.{NodeMove}
use Rattle.headline.specs.node_moves.Moves.NodeMove.{hears, reads_first, reads_later, loses_one, loses_next, expels_one, hands}
use Rattle.headline.specs.node_moves.Ends.{IsOrderly, open_named}

-- the effects of its replica in a move
abbrev pub move_effects : {core : CoreState} {outcome : StepOutcome} → NodeMove core outcome →
    List (Effect Command Output)
move_effects {core = core} (hears input is) = (outcome_of_input input core.replica.state).effects
move_effects {core = core} (reads_first now port connection connect rest at first is room) =
    (proposed rules core.replica.state
    (commands.Connect connection.name connect.client connect.clean)).effects
move_effects {core = core} (reads_later now port connection packet rest at later is room) =
    (proposed rules core.replica.state (commands.Packet connection.name packet)).effects
move_effects {core = core} (loses_one port connection at asked) =
    if serves core
    then (proposed rules core.replica.state (commands.Lost connection.name)).effects else []
move_effects {core = core} (loses_next connection at) =
    if serves core
    then (proposed rules core.replica.state (commands.Lost connection.name)).effects else []
move_effects {core = core} (expels_one client) =
    if serves core then (proposed rules core.replica.state (commands.Expel client)).effects else []
move_effects _ = []

-- the broker's outputs among it
abbrev pub outputs_of : List (Effect Command Output) → List Output
outputs_of [] = []
outputs_of (Out place output ∷ effects) = output ∷ outputs_of effects
outputs_of (To receiver message ∷ effects) = outputs_of effects

-- packets as bytes, joined
abbrev pub spelled : List Packet → List ℕ
spelled [] = []
spelled (packet ∷ packets) = spelling packet ++ spelled packets

-- whether bytes are handed over in a move
abbrev pub is_handing : {core : CoreState} {outcome : StepOutcome} → NodeMove core outcome → Bool
is_handing (hands port) = true
is_handing _ = false

-- On a connection that stays open a move queues the packets that the outputs of this move send to
-- it, in order, after what was queued before. Except for handing over, nothing else changes what is
-- queued.
abbrev pub PutsInOrder : Type 0
PutsInOrder =
    (core : CoreState) (outcome : StepOutcome) (move : NodeMove core outcome) → IsOrderly core →
    is_handing move ≡ false → (name : ConnectionName) (old new : Connection) →
    open_named name core ≡ Some old → open_named name outcome.core ≡ Some new →
    new.pending ≡ old.pending ++ spelled (sends_to name (outputs_of (move_effects move)))
