-- The moves of a node on one item.
use Rattle.std.specs.Prelude.{◌≡◌, ℕ, Bool, true, false, List, [], ◌∷◌}
use Rattle.ballot_base.specs.declared.message.Effect.{Effect}
use Rattle.ballot_base.specs.Protocol.{Input}
use Rattle.ballot_base.specs.Protocol.Input.{Receives, Ticks}
use Rattle.broker_spec.specs.declared.command.Command.{Command}
use Rattle.broker_spec.specs.Connection.{ConnectionName}
use Rattle.broker_spec.specs.declared.command.Output.{Output}
use Rattle.world_base.specs.declared.node_core.item.Item.{Item}
use Rattle.world_base.specs.declared.node_core.item.Item.TheVariants.{Peer, Tick, Bytes, Cut}
use Rattle.world_base.specs.node_core.Core.{CoreState, StepOutcome}
use Rattle.world_base.specs.node_core.LossyStep.{RunsOn}
use Rattle.world_base.specs.node_core.PacketInput.{open_at}
use Rattle.headline.specs.node_moves.Ends.{piece_on}
use Rattle.headline.specs.node_moves.LossyRuns.{MoveTraceOrLost, HearsAtFirst, bytes_on, all_inputs, HandsNothing, CutsNothing, AllFreeze}

-- what the replica receives with an item
abbrev pub heard_with : Item → List (Input Command)
heard_with (Peer message) = Receives message ∷ []
heard_with (Tick now) = Ticks ∷ []
heard_with _ = []

-- the bytes that come with an item on the connection of a name
abbrev pub came_with : ConnectionName → Item → CoreState → List ℕ
came_with name (Bytes port piece now) core = piece_on name piece (open_at port core)
came_with name _ core = []

-- whether an item is a cut
abbrev pub is_cut : Item → Bool
is_cut Cut = true
is_cut _ = false

-- Each step that takes an item with losses is a run of moves. In the first of them the replica
-- receives what comes with the item. On each connection the bytes of the item come, and nothing is
-- handed over. No log is cut unless the item is a cut, and what is frozen can be read.
pub record IsRunOn (item : Item) (core : CoreState) (outcome : StepOutcome) : Type 0 where
  pub run : MoveTraceOrLost core outcome
  pub first : HearsAtFirst run
  pub hears : all_inputs run ≡ heard_with item
  pub bytes : (name : ConnectionName) → bytes_on name run ≡ came_with name item core
  pub hands : HandsNothing run
  pub cuts : is_cut item ≡ false → CutsNothing run
  pub freezes : AllFreeze run

-- each step on an item, with losses or not, is a run of moves (`IsRunOn`)
abbrev pub LossesAreMoves : Type 0
LossesAreMoves =
    (item : Item) (core later : CoreState) (messages : List (Effect Command Output)) →
    RunsOn item core later messages →
    IsRunOn item core (record { core = later; messages = messages })
