-- All that holds for a group at each of its moments, with the history of its ballots.
use Rattle.std.specs.Prelude.{ℕ, ◌+◌, ◌<◌, ◌≡◌, ◌⊎◌, length, Some}
use Rattle.machine.specs.Machine.{Rules}
use Rattle.agreement.specs.Inside.Masters.{IsServing, IsMaster}
use Rattle.agreement.specs.Inside.Ballots.{Given, History}
use Rattle.agreement.specs.Inside.Begun.{AreBegun, AreLong}
use Rattle.agreement.specs.MasterState.{MasterState}
use Rattle.agreement.specs.Replays.{AreReplays}
use Rattle.agreement.specs.Inside.Sound.{IsSoundWorld}
use Rattle.agreement.specs.World.{GroupWorld}
use Rattle.agreement.specs.whole_logs.Messages.{Message}
use Rattle.lists.specs.Lists.{In}

-- whether a node of this number exists
abbrev pub IsNode : ℕ → ℕ → Type 0
IsNode nodes number = (node : ℕ) × (number ≡ node + 1) × (node < nodes)

-- every sender is the master or a node
abbrev pub AreSenders : {S C O : Type 0} → GroupWorld S C O → Type 0
AreSenders {C = C} world = (to : ℕ) (message : Message C) → In (to, message) world.sent →
    (message.from ≡ 0) ⊎ IsNode (length world.nodes) message.from

-- the primary of a ballot is a node
abbrev pub IsLedByNode : {C : Type 0} → ℕ → History C → ℕ → Type 0
IsLedByNode nodes history ballot =
    (given : Given) × (history.given ballot ≡ Some given) × IsNode nodes given.primary

-- its ballots, messages and nodes are as they should be, the primary of its active ballot is a
-- node, and each ballot's list has its start after its base
pub record Serves {S C O : Type 0} (rules : Rules S C O) (state : MasterState)
    (world : GroupWorld S C O) (history : History C) : Type 0 where
  pub sound : IsSoundWorld rules world history
  pub master : IsMaster state history
  pub replays : AreReplays rules world
  pub serving : IsServing state
  pub senders : AreSenders world
  pub led : IsLedByNode (length world.nodes) history state.active
  pub begun : AreBegun rules.start_of history
  pub long : AreLong world history
