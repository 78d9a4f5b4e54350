-- What may happen between two moments of a group, if an Assign is not refused.
use Rattle.std.specs.Prelude.{ℕ, ◌≡◌, false, List, [], slice_get, Some}
use Rattle.machine.specs.Machine.{Rules}
use Rattle.ballot_base.specs.declared.config.Config.{Config}
use Rattle.agreement.specs.whole_logs.Messages.Body.{Activate}
use Rattle.agreement.specs.whole_logs.Messages.{Effect}
use Rattle.agreement.specs.whole_logs.Losses.{Loses, halted}
use Rattle.agreement.specs.whole_logs.Protocol.{Input, replica_step}
use Rattle.agreement.specs.whole_logs.Protocol.Input.{Receives, Proposes, Ticks}
use Rattle.agreement.specs.whole_logs.Replica.{ReplicaState}
use Rattle.agreement.specs.Proposals.{proposal_by}
use Rattle.agreement.specs.World.{GroupWorld, moved}
use Rattle.lists.specs.Lists.{In}
use Rattle.agreement.specs.MasterState.{MasterState, assigned, activated}
use Rattle.agreement.specs.Steps.{sends_from_master, MayTake}

-- what a step may add to the list of a ballot: a proposal to that of its primary, and otherwise the
-- start of the ballot
abbrev pub AddsBy : {S C O : Type 0} → Rules S C O → ReplicaState S C → Input C → ℕ → C → Type 0
AddsBy rules replica (Receives message) ballot added = added ≡ rules.start_of ballot
AddsBy rules replica (Proposes command) ballot added = (ballot ≡ replica.joined) × (added ≡ command)
AddsBy rules replica Ticks ballot added = ⊥

-- what may happen between two moments: a node takes its step, perhaps with losses, or stops; the
-- master does an Assign or receives an Activate
pub data MomentStep {S C O : Type 0} (rules : Rules S C O) : MasterState → GroupWorld S C O →
    MasterState → GroupWorld S C O → Type 0 where
  -- a node receives a message, takes a proposal, or ticks, perhaps with losses
  takes : {master : MasterState} {world : GroupWorld S C O} (node : ℕ) (replica : ReplicaState S C)
      (input : Input C) {new : ReplicaState S C}
      {given : List (Effect C O)} → slice_get world.nodes node ≡ Some replica →
      replica.stopped ≡ false →
      MayTake world node input →
      Loses rules replica (replica_step rules replica input) new given →
      MomentStep rules master world master (moved world node new given)
  -- a node stops
  stops : {master : MasterState} {world : GroupWorld S C O} (node : ℕ)
      (replica : ReplicaState S C) →
      slice_get world.nodes node ≡ Some replica →
      MomentStep rules master world master (moved world node (halted rules replica) [])
  -- the master assigns a ballot
  assigns : {master : MasterState} {world : GroupWorld S C O} (config : Config) →
      In config.primary config.members →
      MomentStep rules master world (assigned C master config).state
      (sends_from_master world (assigned C master config))
  -- the master answers an Activate
  hears : {master : MasterState} {world : GroupWorld S C O} (from ballot : ℕ) →
      In (0, record { from = from; body = Activate ballot }) world.sent →
      MomentStep rules master world (activated C master ballot from master.waiting).state
      (sends_from_master world (activated C master ballot from master.waiting))
  -- the master assigns a ballot, and its message is lost
  assigns_unheard : {master : MasterState} {world : GroupWorld S C O} (config : Config) →
      In config.primary config.members →
      MomentStep rules master world (assigned C master config).state world
  -- the master hears an Activate, and its answer is lost
  hears_unanswered : {master : MasterState} {world : GroupWorld S C O} (from ballot : ℕ) →
      In (0, record { from = from; body = Activate ballot }) world.sent →
      MomentStep rules master world (activated C master ballot from master.waiting).state world

-- the proposal of a step
abbrev pub adds_of : {S C O : Type 0} {rules : Rules S C O} {master : MasterState}
    {world : GroupWorld S C O} {next_master : MasterState} {next_world : GroupWorld S C O} →
    MomentStep rules master world next_master next_world →
    List (ℕ × C)
adds_of (takes node replica input stands runs may loses) = proposal_by replica input
adds_of (stops node replica stands) = []
adds_of (assigns config member) = []
adds_of (hears from ballot sent) = []
adds_of (assigns_unheard config member) = []
adds_of (hears_unanswered from ballot sent) = []
