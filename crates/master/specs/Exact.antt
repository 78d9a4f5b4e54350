-- What an event does to a group if memory suffices.
use Rattle.std.specs.Prelude.{ℕ, zero, suc, ◌-◌, List, [], ◌∷◌, slice_get, Option, Some, None}
use Rattle.machine.specs.Machine.{Rules}
use Rattle.ballot_base.specs.declared.message.Body.{Body}
use Rattle.ballot_base.specs.declared.message.Body.TheVariants.{Activate}
use Rattle.ballot_base.specs.declared.config.Config.{Config}
use Rattle.ballot_base.specs.declared.message.Message.{Message}
use Rattle.ballot_base.specs.Protocol.{Input}
use Rattle.ballot_base.specs.Protocol.Input.{Receives, Proposes, Ticks}
use Rattle.agreement.specs.MasterState.{AssignRefusal, MasterState, refusal}
use Rattle.agreement.specs.cut_logs.Masters.{activated, assigned}
use Rattle.agreement.specs.cut_logs.Moments.{Moment}
use Rattle.agreement.specs.cut_logs.Steps.{sends_from_master}
use Rattle.agreement.specs.cut_logs.World.{CutGroupWorld, moved, recorded}
use Rattle.master.specs.declared.event.Event.{Event}
use Rattle.master.specs.declared.event.Event.TheVariants.{Propose, Assign, Deliver, Tick}
use Rattle.master.specs.declared.event.Event.TheVariants.{Cut, Crash}
use Rattle.master.specs.Outcomes.EventOutcome.{by_node, by_cut, by_master, unheeded}
use Rattle.master.specs.Outcomes.{EventOutcome, outcome_of_cutting, running, stopping, outcome_of_taking}

-- a node takes an input
abbrev pub takes : {S C O : Type 0} →
    Rules S C O → CutGroupWorld S C O → ℕ → Input C → Option (EventOutcome S C O)
takes rules world node input = outcome_of_taking rules (node - 1) (running world.nodes node) input

-- the master answers an Activate and ignores every other message
abbrev pub hears : {S C O : Type 0} → Rules S C O → MasterState → ℕ → Body C → EventOutcome S C O
hears {C = C} rules master from (Activate ballot) =
    by_master (activated C master ballot from master.waiting)
hears rules master from _ = unheeded

-- a message reaches the master or a node
abbrev pub comes_to : {S C O : Type 0} →
    Rules S C O → Moment S C O → ℕ → Message C → Option (EventOutcome S C O)
comes_to rules moment zero message = Some (hears rules moment.master message.from message.body)
comes_to rules moment (suc at) message = takes rules moment.world (suc at) (Receives message)

-- a message reaches its receiver, if it was sent
abbrev pub comes : {S C O : Type 0} →
    Rules S C O → Moment S C O → Option (ℕ × Message C) → Option (EventOutcome S C O)
comes rules moment None = None
comes rules moment (Some (receiver, message)) = comes_to rules moment receiver message

-- the master assigns a ballot, unless it refuses
abbrev pub gives : {S C O : Type 0} →
    Rules S C O → MasterState → Config → Option AssignRefusal → Option (EventOutcome S C O)
gives rules master config (Some why) = None
gives {C = C} rules master config None = Some (by_master (assigned C master config))

-- what an event does; none if it is idle
abbrev pub event_outcome : {S C O : Type 0} →
    Rules S C O → Moment S C O → Event C → Option (EventOutcome S C O)
event_outcome rules moment (Propose node command) = takes rules moment.world node (Proposes command)
event_outcome rules moment (Assign config) =
    gives rules moment.master config (refusal moment.master config)
event_outcome rules moment (Deliver number) =
    comes rules moment (slice_get moment.world.sent number)
event_outcome rules moment (Tick node) = takes rules moment.world node Ticks
event_outcome rules moment (Cut node) =
    outcome_of_cutting rules (node - 1) (running moment.world.nodes node)
event_outcome rules moment (Crash node) =
    stopping rules (node - 1) (running moment.world.nodes node)

-- the step of a group if memory suffices, and its steps one after another
abbrev pub moment_after_event : {S C O : Type 0} → Moment S C O → Option (EventOutcome S C O) →
    Moment S C O
moment_after_event moment None = moment
moment_after_event moment (Some (by_node step)) =
    record moment { world = moved moment.world step.index step.outcome.state step.outcome.effects }
moment_after_event moment (Some (by_cut step)) =
    record moment {
      world = record (moved moment.world step.index step.outcome.state step.outcome.effects) {
        archive = recorded moment.world.archive step.before;
      };
    }
moment_after_event moment (Some (by_master answer)) =
    record { master = answer.state; world = sends_from_master moment.world answer }
moment_after_event moment (Some unheeded) = moment

-- the moment after an event
abbrev pub group_step : {S C O : Type 0} → Rules S C O → Event C → Moment S C O → Moment S C O
group_step rules event moment = moment_after_event moment (event_outcome rules moment event)

-- the moment after events
abbrev pub group_run : {S C O : Type 0} →
    Rules S C O → List (Event C) → Moment S C O → Moment S C O
group_run rules [] moment = moment
group_run rules (event ∷ events) moment = group_run rules events (group_step rules event moment)
