-- The event that a step is.
use Rattle.std.specs.Prelude.{◌≡◌, ℕ, List, [], ◌∷◌, codes, Some}
use Rattle.rows.specs.Fields.{Text, number_of}
use Rattle.ballot_base.specs.declared.config.Config.{Config}
use Rattle.machine.specs.declared.tally.TallyCommand.{TallyCommand}
use Rattle.machine.specs.declared.tally.TallyCommand.TheVariants as commands
use Rattle.master.specs.declared.event.Event.{Event}
use Rattle.master.specs.declared.event.Event.TheVariants as events
use Rattle.node_rows.specs.Values.{Is, IsConfig}

-- an event, by its word and its values
pub data Events : List Text → Event TallyCommand → Type 0 where
  -- `add 1 2`: that 2 is added is proposed to node 1
  add : {word digits value : Text} (node number : ℕ) → Is word (codes "add")
      → number_of digits ≡ Some node → number_of value ≡ Some number
      → Events (word ∷ digits ∷ value ∷ []) (events.Propose node (commands.Add number))
  -- `start 1 2`: the start of ballot 2 is proposed to node 1
  start : {word digits value : Text} (node number : ℕ) → Is word (codes "start")
      → number_of digits ≡ Some node → number_of value ≡ Some number
      → Events (word ∷ digits ∷ value ∷ []) (events.Propose node (commands.Start number))
  -- `assign x"01 02" 2`: the master gives the next ballot to members 1 and 2, with primary 2
  assign : {word members primary : Text} (config : Config) → Is word (codes "assign")
      → IsConfig members primary config
      → Events (word ∷ members ∷ primary ∷ []) (events.Assign config)
  -- `deliver 0`: message 0 comes
  deliver : {word digits : Text} (number : ℕ) → Is word (codes "deliver")
      → number_of digits ≡ Some number → Events (word ∷ digits ∷ []) (events.Deliver number)
  -- `tick 1`: time passes at node 1
  tick : {word digits : Text} (node : ℕ) → Is word (codes "tick")
      → number_of digits ≡ Some node → Events (word ∷ digits ∷ []) (events.Tick node)
  -- `cut 1`: node 1 cuts its log
  cut : {word digits : Text} (node : ℕ) → Is word (codes "cut")
      → number_of digits ≡ Some node → Events (word ∷ digits ∷ []) (events.Cut node)
  -- `crash 1`: node 1 stops for good
  crash : {word digits : Text} (node : ℕ) → Is word (codes "crash")
      → number_of digits ≡ Some node → Events (word ∷ digits ∷ []) (events.Crash node)
