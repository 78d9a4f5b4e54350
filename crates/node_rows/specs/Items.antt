-- The item that a step is.
use Rattle.std.specs.Prelude.{◌≡◌, ℕ, List, [], ◌∷◌, codes, Some, Ok}
use Rattle.rows.specs.Fields.{Text, number_of}
use Rattle.ballot_base.specs.declared.message.Message.{Message}
use Rattle.broker_spec.specs.declared.command.Command.{Command}
use Rattle.links.specs.message_form.Outcome.{message_of}
use Rattle.world_base.specs.declared.node_connections.port.Port.{Port}
use Rattle.world_base.specs.declared.node_core.item.Item.{Item}
use Rattle.world_base.specs.declared.node_core.item.Item.TheVariants as items
use Rattle.node_rows.specs.Values.{Is, IsPort}

-- an item, by its word and its values
pub data Items : List Text → Item → Type 0 where
  -- `message x"0A 02 .."`: a message, by its bytes, of another node or of the master, 0
  message : {word bytes : Text} (message : Message Command) → Is word (codes "message")
      → message_of bytes ≡ Ok message → Items (word ∷ bytes ∷ []) (items.Peer message)
  -- `tick 1000`: the time in milliseconds
  tick : {word digits : Text} (time : ℕ) → Is word (codes "tick")
      → number_of digits ≡ Some time → Items (word ∷ digits ∷ []) (items.Tick time)
  -- `opened 1 0`: a stream is opened by a port at a time
  opened : {word digits when : Text} (port : Port) (time : ℕ) → Is word (codes "opened")
      → IsPort digits port → number_of when ≡ Some time
      → Items (word ∷ digits ∷ when ∷ []) (items.Opened port time)
  -- `bytes 1 0 x"C0 00"`: bytes come on it
  bytes : {word digits when bytes : Text} (port : Port) (time : ℕ) → Is word (codes "bytes")
      → IsPort digits port → number_of when ≡ Some time
      → Items (word ∷ digits ∷ when ∷ bytes ∷ []) (items.Bytes port bytes time)
  -- `ended 1`: it ends
  ended : {word digits : Text} (port : Port) → Is word (codes "ended") → IsPort digits port
      → Items (word ∷ digits ∷ []) (items.Ended port)
  -- `expel "a"`: an administrator ends the session of a client
  expel : {word client : Text} → Is word (codes "expel")
      → Items (word ∷ client ∷ []) (items.Expel client)
  -- `cut`: the node cuts its log
  cut : {word : Text} → Is word (codes "cut") → Items (word ∷ []) items.Cut
  -- `crash`: it stops for good
  crash : {word : Text} → Is word (codes "crash") → Items (word ∷ []) items.Crash
