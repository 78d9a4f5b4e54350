-- What may happen in a group: a node takes its step, perhaps with losses, or stops; its master
-- answers an Assign, or receives an Activate. Messages of the master may be lost, too.
use Rattle.std.specs.Prelude.{ℕ, ◌+◌, ◌≡◌, false, List, [], slice_get, Some, ◌∷◌, ◌++◌}
use Rattle.std.specs.Prelude.{Option, None}
use Rattle.machine.specs.Machine.{Rules}
use Rattle.ballot_base.specs.declared.config.Config.{Config}
use Rattle.agreement.specs.whole_logs.Messages.Body.{Activate}
use Rattle.agreement.specs.whole_logs.Messages.{Effect}
use Rattle.agreement.specs.whole_logs.Losses.{Loses, halted}
use Rattle.agreement.specs.whole_logs.Protocol.{Input, replica_step}
use Rattle.agreement.specs.whole_logs.Protocol.Input.{Receives, Proposes, Ticks}
use Rattle.agreement.specs.whole_logs.Replica.{ReplicaState}
use Rattle.agreement.specs.World.{GroupWorld, moved}
use Rattle.lists.specs.Lists.{In}
use Rattle.agreement.specs.MasterState.{MasterState, assigned, activated, MasterOutcome}
use Rattle.agreement.specs.MasterState.{AssignRefusal, refusal, master_after}
use Rattle.ballot_base.specs.StepOutcome.{master}

-- a node may take a message only if it was sent to it
abbrev pub MayTake : {S C O : Type 0} → GroupWorld S C O → ℕ → Input C → Type 0
MayTake world node (Receives message) = In (node + 1, message) world.sent
MayTake world node (Proposes command) = Unit {0}
MayTake world node Ticks = Unit {0}

-- the world once the master has sent a message: it comes after those that were sent before
abbrev pub sends_from_master : {S C O : Type 0} → GroupWorld S C O → MasterOutcome C →
    GroupWorld S C O
sends_from_master world outcome =
    record world {
      sent = world.sent
          ++ (outcome.receiver, record { from = master; body = outcome.body }) ∷ [];
    }

-- the world after an Assign: its primary is sent the ballot
abbrev pub world_after : {S C O : Type 0} →
    MasterState → GroupWorld S C O → Config → Option AssignRefusal → GroupWorld S C O
world_after state world config (Some why) = world
world_after {S = S} {C = C} state world config None =
    sends_from_master world (assigned C state config)

-- what may happen in a group whose master answers each Assign
pub data MayHappen {S C O : Type 0} (rules : Rules S C O) :
    MasterState → GroupWorld S C O → MasterState → GroupWorld S C O → Type 0 where
  -- a node receives a message that was sent to it, takes a proposal, or ticks, perhaps with losses
  node_takes : {state : MasterState} {world : GroupWorld S C O} (node : ℕ)
      (replica : ReplicaState S C) (input : Input C) {new : ReplicaState S C}
      {given : List (Effect C O)} →
      slice_get world.nodes node ≡ Some replica → replica.stopped ≡ false →
      MayTake world node input → Loses rules replica (replica_step rules replica input) new given →
      MayHappen rules state world state (moved world node new given)
  -- a node stops
  node_stops : {state : MasterState} {world : GroupWorld S C O} (node : ℕ)
      (replica : ReplicaState S C) → slice_get world.nodes node ≡ Some replica →
      MayHappen rules state world state (moved world node (halted rules replica) [])
  -- an Assign: the master refuses it, or sends NewBallot to the primary of the configuration
  master_assigns : {state : MasterState} {world : GroupWorld S C O} (config : Config) →
      MayHappen rules state world (master_after state config (refusal state config))
      (world_after state world config (refusal state config))
  -- the master receives an Activate that was sent, and answers it
  master_hears : {state : MasterState} {world : GroupWorld S C O} (from ballot : ℕ) →
      In (0, record { from = from; body = Activate ballot }) world.sent →
      MayHappen rules state world (activated C state ballot from state.waiting).state
      (sends_from_master world (activated C state ballot from state.waiting))
  -- an Assign, if the master's NewBallot is lost
  assignment_lost : {state : MasterState} {world : GroupWorld S C O} (config : Config) →
      MayHappen rules state world (master_after state config (refusal state config)) world
  -- an Activate, if the master's answer is lost
  answer_lost : {state : MasterState} {world : GroupWorld S C O} (from ballot : ℕ) →
      In (0, record { from = from; body = Activate ballot }) world.sent →
      MayHappen rules state world (activated C state ballot from state.waiting).state world
