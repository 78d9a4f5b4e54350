-- EventAnswers.antt: the event of a step, by its word.
use Rattle.std.proofs.Common.{◌≡◌, true, ℕ, [], ◌∷◌, Some, codes, bytes_eq}
use Rattle.rows.specs.Fields.{Text, number_of}
use Rattle.ballot_base.specs.declared.config.Config.{Config}
use Rattle.machine.specs.declared.tally.TallyCommand.TheVariants as commands
use Rattle.master.specs.declared.event.Event.TheVariants as events
use Rattle.node_rows.specs.Events.{Events}
use Rattle.node_rows.specs.Values.{IsConfig}

pub add_event : (word digits value : Text) (node number : ℕ) → bytes_eq word (codes "add") ≡ true
    → number_of digits ≡ Some node → number_of value ≡ Some number
    → Events (word ∷ digits ∷ value ∷ []) (events.Propose node (commands.Add number))
add_event word digits value node number is first second = Events.add node number is first second

pub start_event : (word digits value : Text) (node number : ℕ) → bytes_eq word (codes "start") ≡ true
    → number_of digits ≡ Some node → number_of value ≡ Some number
    → Events (word ∷ digits ∷ value ∷ []) (events.Propose node (commands.Start number))
start_event word digits value node number is first second = Events.start node number is first second

pub assign_event : (word members primary : Text) (config : Config) → bytes_eq word (codes "assign") ≡ true
    → IsConfig members primary config → Events (word ∷ members ∷ primary ∷ []) (events.Assign config)
assign_event word members primary config is reads = Events.assign config is reads

pub deliver_event : (word digits : Text) (number : ℕ) → bytes_eq word (codes "deliver") ≡ true
    → number_of digits ≡ Some number → Events (word ∷ digits ∷ []) (events.Deliver number)
deliver_event word digits number is read = Events.deliver number is read

pub tick_event : (word digits : Text) (node : ℕ) → bytes_eq word (codes "tick") ≡ true
    → number_of digits ≡ Some node → Events (word ∷ digits ∷ []) (events.Tick node)
tick_event word digits node is read = Events.tick node is read

pub cut_event : (word digits : Text) (node : ℕ) → bytes_eq word (codes "cut") ≡ true
    → number_of digits ≡ Some node → Events (word ∷ digits ∷ []) (events.Cut node)
cut_event word digits node is read = Events.cut node is read

pub crash_event : (word digits : Text) (node : ℕ) → bytes_eq word (codes "crash") ≡ true
    → number_of digits ≡ Some node → Events (word ∷ digits ∷ []) (events.Crash node)
crash_event word digits node is read = Events.crash node is read
