-- The call of a client that a step is, and what it does.
use Rattle.std.specs.Prelude.{◌≡◌, false, List, [], ◌∷◌, codes, Some, Result, Ok}
use Rattle.packet_base.specs.QoS.{qos_number}
use Rattle.packet_base.specs.declared.qos.QoS.{QoS}
use Rattle.rows.specs.Fields.{Text, number_of}
use Rattle.client.specs.Core.{AnswersCall, Core, LeavesServer, OpensConnection, gone, publication_with}
use Rattle.client.specs.Input.{OnBytes}
use Rattle.client_base.specs.Steps.{Call, keeper_step}
use Rattle.client_base.specs.declared.error.ClientError.{ClientError}
use Rattle.node_rows.specs.Values.{Is}

-- how a call ends
abbrev pub Ended : Type 0
Ended = Result (Unit {0}) ClientError

-- digits are the number of a QoS
abbrev pub IsQoS : Text → QoS → Type 0
IsQoS digits qos = number_of digits ≡ Some (qos_number qos)

-- a call, by its word and its values
pub data Calls : List Text → Core → Ended → Core → Type 0 where
  -- `open`
  opens : {word : Text} {old new : Core} {ended : Ended} → Is word (codes "open")
      → OpensConnection (keeper_step Call.Opens old.state) old ended new
      → Calls (word ∷ []) old ended new
  -- `lost`
  loses : {word : Text} {old new : Core} {ended : Ended} → Is word (codes "lost")
      → new ≡ gone old → ended ≡ Ok tt → Calls (word ∷ []) old ended new
  -- `disconnect`
  disconnects : {word : Text} {old new : Core} {ended : Ended} → Is word (codes "disconnect")
      → LeavesServer (keeper_step Call.Disconnects old.state) old ended new
      → Calls (word ∷ []) old ended new
  -- `bytes x"20 02 00 00"`
  receives : {word piece : Text} {old new : Core} {ended : Ended} → Is word (codes "bytes")
      → OnBytes piece old.state.stage old ended new → Calls (word ∷ piece ∷ []) old ended new
  -- `unsubscribe "t/#"`
  unsubscribes : {word filter : Text} {old new : Core} {ended : Ended}
      → Is word (codes "unsubscribe")
      → AnswersCall (keeper_step (Call.Unsubscribes filter) old.state) old ended new
      → Calls (word ∷ filter ∷ []) old ended new
  -- `subscribe "t/#" 2`
  subscribes : {word filter digits : Text} (qos : QoS) {old new : Core} {ended : Ended}
      → Is word (codes "subscribe") → IsQoS digits qos
      → AnswersCall (keeper_step (Call.Subscribes filter qos) old.state) old ended new
      → Calls (word ∷ filter ∷ digits ∷ []) old ended new
  -- `publish "t/1" 2 "x"`
  publishes : {word topic digits payload : Text} (qos : QoS) {old new : Core} {ended : Ended}
      → Is word (codes "publish") → IsQoS digits qos
      → AnswersCall
      (keeper_step (Call.Publishes (publication_with false qos topic payload)) old.state) old ended
      new
      → Calls (word ∷ topic ∷ digits ∷ payload ∷ []) old ended new
