-- Steps of a group in which memory may have run out, and how these are counted.
use Rattle.std.specs.Prelude.{◌<◌, ◌≡◌, ◌⊎◌, ℕ, List, [], ◌∷◌, Option, Some, None}
use Rattle.machine.specs.Machine.{Rules}
use Rattle.ballot_base.specs.declared.message.Effect.{Effect}
use Rattle.ballot_base.specs.Losses.{SendsAndAddsNothing, Loses, greatest_count, one_more}
use Rattle.ballot_base.specs.Replica.{ReplicaState}
use Rattle.agreement.specs.cut_logs.Masters.{MasterOutcome}
use Rattle.agreement.specs.cut_logs.Moments.{Moment}
use Rattle.agreement.specs.cut_logs.World.{moved}
use Rattle.master.specs.declared.event.Event.{Event}
use Rattle.master.specs.declared.event.Event.TheVariants.{Crash}
use Rattle.master.specs.Group.{GroupState}
use Rattle.master.specs.Exact.{event_outcome, group_step}
use Rattle.master.specs.Outcomes.{NodeOutcome, EventOutcome}
use Rattle.master.specs.Outcomes.EventOutcome.{by_node, by_cut, by_master, unheeded}

-- what an event may do if memory runs out: nothing (then no log is cut), the step of its node with
-- losses, or that of the master, whose message is lost
pub data GroupEventLosing {S C O : Type 0} (rules : Rules S C O) :
    Moment S C O → Event C → Moment S C O → Type 0 where
  -- nothing is done
  nothing_happens : {moment : Moment S C O} {event : Event C} →
      GroupEventLosing rules moment event moment
  -- the node of the event takes its step, with losses
  node_goes : {moment : Moment S C O} {event : Event C} (step : NodeOutcome S C O)
      {new : ReplicaState S C} {given : List (Effect C O)} →
      event_outcome rules moment event ≡ Some (by_node step) →
      Loses rules step.before step.outcome new given →
      GroupEventLosing rules moment event
      (record moment { world = moved moment.world step.index new given })
  -- the master does its step, and its message is lost
  master_goes : {moment : Moment S C O} {event : Event C} (answer : MasterOutcome C) →
      event_outcome rules moment event ≡ Some (by_master answer) →
      GroupEventLosing rules moment event (record moment { master = answer.state })

-- an event that needs no memory: it reaches no node, or a master that ignores it; or, by the
-- protocol, its node sends nothing, keeps its log and applies nothing, though it may learn
-- something, such as what a member holds; or the event stops a node
pub data GroupTakesNoMemory {S C O : Type 0} (rules : Rules S C O) (moment : Moment S C O)
    (event : Event C) : Type 0 where
  -- no node gets it
  comes_to_nobody : event_outcome rules moment event ≡ None → GroupTakesNoMemory rules moment event
  -- the master ignores it
  goes_unheeded : event_outcome rules moment event ≡ Some unheeded →
      GroupTakesNoMemory rules moment event
  -- its node sends nothing, keeps its log and applies nothing
  sends_and_adds_nothing : (step : NodeOutcome S C O) →
      event_outcome rules moment event ≡ Some (by_node step) →
      SendsAndAddsNothing step.before step.outcome → GroupTakesNoMemory rules moment event
  -- a node crashes
  stops_a_node : (node : ℕ) → event ≡ Crash node → GroupTakesNoMemory rules moment event

-- a group after an event that was done exactly, without a loss
abbrev pub done_exactly : {S C O : Type 0} →
    Rules S C O → GroupState S C O → Event C → GroupState S C O
done_exactly rules old event =
    record { moment = group_step rules event old.moment; losses = old.losses }

-- the snapshot of a cut thaws to the node's machine
abbrev pub Freezes : {S C O : Type 0} → Rules S C O → Option (EventOutcome S C O) → Type 0
Freezes rules None = Unit {0}
Freezes rules (Some (by_node step)) = Unit {0}
Freezes rules (Some (by_cut step)) =
    rules.thawed step.outcome.state.log.snapshot ≡ Some step.before.machine
Freezes rules (Some (by_master answer)) = Unit {0}
Freezes rules (Some unheeded) = Unit {0}

-- the step of an event, or one with losses that was counted; if a log was cut, its snapshot can be
-- read
pub record GroupEventOrLost {S C O : Type 0} (rules : Rules S C O) (old : GroupState S C O)
    (event : Event C) (new : GroupState S C O) : Type 0 where
  pub way : ((new.moment ≡ group_step rules event old.moment) × (new.losses ≡ old.losses))
      ⊎ (GroupEventLosing rules old.moment event new.moment × (new.losses ≡ one_more old.losses))
  pub freezes : Freezes rules (event_outcome rules old.moment event) ⊎ (new.moment ≡ old.moment)

-- events one after another, each done exactly or with losses that were counted: no loss excuses
-- another event
pub data GroupTraceOrLost {S C O : Type 0} (rules : Rules S C O) :
    GroupState S C O → List (Event C) → GroupState S C O → Type 0 where
  -- no event
  ends : {first : GroupState S C O} → GroupTraceOrLost rules first [] first
  -- one event, exact or with a loss that is counted, and others after it
  goes_on : {first next last : GroupState S C O} {event : Event C} {events : List (Event C)} →
      GroupEventOrLost rules first event next → GroupTraceOrLost rules next events last →
      GroupTraceOrLost rules first (event ∷ events) last

-- the count is exact as long as it is below its greatest number
abbrev pub GroupLosesNothing : {S C O : Type 0} → GroupState S C O → GroupState S C O → Type 0
GroupLosesNothing old new = (new.losses ≡ old.losses) × (old.losses < greatest_count)
