-- Steps of nodes and of groups that may lose something when memory runs out, and count it.
use Rattle.std.specs.Prelude.{ℕ, Bool, true, false, ◌<◌, ◌≡◌, ◌⊎◌, List, [], ◌++◌, Some}
use Rattle.machine.specs.Machine.{Rules}
use Rattle.ballot_base.specs.declared.message.Message.{Message}
use Rattle.ballot_base.specs.declared.message.Effect.{Effect}
use Rattle.ballot_base.specs.Losses.{SendsAndAddsNothing, Loses, Thinned, greatest_count, one_more}
use Rattle.ballot_base.specs.Protocol.{Input, replica_step}
use Rattle.ballot_base.specs.Protocol.Input.{Receives, Proposes, Ticks}
use Rattle.ballot_base.specs.Replica.{ReplicaState, CountedReplica}
use Rattle.ballot_base.specs.Unread.{is_unread}
use Rattle.agreement.specs.cut_logs.Masters.{MasterOutcome}
use Rattle.agreement.specs.cut_logs.Steps.{sends_from_master}
use Rattle.agreement.specs.cut_logs.World.{messages, outputs, moved}
use Rattle.master.specs.declared.inputs.Input.{Input as InputInCode}
use Rattle.master.specs.declared.inputs.Input.TheVariants.{Received, Proposed, Ticked}
use Rattle.master.specs.Group.{GroupState}
use Rattle.master.specs.Exact.{moment_after_event}
use Rattle.master.specs.Outcomes.{NodeOutcome}
use Rattle.master.specs.Outcomes.EventOutcome.{by_cut}
use Rattle.master.specs.Steps.{Freezes}

-- the input of the model for an input in code
abbrev pub input_of : {C : Type 0} → InputInCode C → Input C
input_of (Received message) = Receives message
input_of (Proposed command) = Proposes command
input_of Ticked = Ticks

-- there is no snapshot that has to be read and does not thaw
abbrev pub IsRead : {S C O : Type 0} → Rules S C O → ReplicaState S C → Input C → Type 0
IsRead rules replica (Receives message) = is_unread rules replica message.body ≡ false
IsRead rules replica (Proposes command) = Unit {0}
IsRead rules replica Ticks = Unit {0}

-- a replica took its step exactly, and counted nothing
abbrev pub TookExactly : {S C O : Type 0} → Rules S C O → CountedReplica S C → Input C →
    CountedReplica S C → List (Effect C O) → Type 0
TookExactly rules old input new given =
    (new.state ≡ (replica_step rules old.state input).state)
    × (given ≡ (replica_step rules old.state input).effects)
    × (new.losses ≡ old.losses)

-- a replica took its step, perhaps with losses: without losses if it was whole, or if it sends
-- nothing, keeps the log and applies nothing. If the count did not change, and is below its
-- greatest number, the step was whole.
pub record InputStepOrLost {S C O : Type 0} (rules : Rules S C O) (old : CountedReplica S C)
    (input : Input C)
    (new : CountedReplica S C) (before moment_after_event : List (Effect C O))
    (whole : Bool) : Type 0 where
  pub given : List (Effect C O)
  pub appended : moment_after_event ≡ before ++ given
  pub loses : Loses rules old.state (replica_step rules old.state input) new.state given
  pub exact : whole ≡ true → TookExactly rules old input new given
  pub counted : (new.losses ≡ old.losses) ⊎ (new.losses ≡ one_more old.losses)
  pub quiet : SendsAndAddsNothing old.state (replica_step rules old.state input) →
      IsRead rules old.state input →
      TookExactly rules old input new given
  pub told : new.losses ≡ old.losses → old.losses < greatest_count → whole ≡ true

-- messages among effects were moved after those sent before, except some that were lost; none is
-- lost if there is none
pub record Parted {C O : Type 0} (given left parted : List (Effect C O))
    (sent more : List (ℕ × Message C)) (whole : Bool) : Type 0 where
  pub kept : List (Effect C O)
  pub thinned : Thinned kept given
  pub exact : whole ≡ true → kept ≡ given
  pub idle : given ≡ [] → whole ≡ true
  pub sent_is : more ≡ sent ++ messages kept
  pub outputs_are : outputs parted ≡ outputs left ++ outputs kept
  pub messages_are : messages parted ≡ messages left

-- a group after a step of one node, or one with losses that was counted; no loss is counted if the
-- node sends nothing, keeps its log and applies nothing
pub record GroupNodeStepOrLost {S C O : Type 0} (rules : Rules S C O) (old : GroupState S C O)
    (node : NodeOutcome S C O) (new : GroupState S C O) : Type 0 where
  pub state : ReplicaState S C
  pub given : List (Effect C O)
  pub moment : new.moment
      ≡ record old.moment { world = moved old.moment.world node.index state given }
  pub way :
      ((state ≡ node.outcome.state) × (given ≡ node.outcome.effects) × (new.losses ≡ old.losses))
      ⊎ (Loses rules node.before node.outcome state given × (new.losses ≡ one_more old.losses))
  pub quiet : SendsAndAddsNothing node.before node.outcome →
      (state ≡ node.outcome.state) × (given ≡ node.outcome.effects) × (new.losses ≡ old.losses)

-- a group after a cut of one node's log, or one for which memory ran out, which was counted
pub record GroupCutOrLost {S C O : Type 0} (rules : Rules S C O) (old : GroupState S C O)
    (node : NodeOutcome S C O) (new : GroupState S C O) : Type 0 where
  pub way : ((new.moment ≡ moment_after_event old.moment (Some (by_cut node)))
      × (new.losses ≡ old.losses)
      × Freezes rules (Some (by_cut node)))
      ⊎ (new ≡ record old { losses = one_more old.losses })

-- a group after a step of the master, or one whose message was lost, which was counted
pub record GroupMasterStepOrLost {S C O : Type 0} (old : GroupState S C O)
    (outcome : MasterOutcome C) (new : GroupState S C O) : Type 0 where
  pub way : ((new.moment
      ≡ record { master = outcome.state; world = sends_from_master old.moment.world outcome })
      × (new.losses ≡ old.losses))
      ⊎ ((new.moment ≡ record old.moment { master = outcome.state })
      × (new.losses ≡ one_more old.losses))
