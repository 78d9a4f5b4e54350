-- The events of a client's recovery, and those that answer its CONNECT.
use Rattle.std.specs.Prelude.{ℕ, Bool, true, false, List, [], ◌∷◌, ◌++◌, map}
use Rattle.recovery.specs.replicas.Deliveries.{asked_and_answered}
use Rattle.world_pipes.specs.declared.events.event.Event.{Event}
use Rattle.world_pipes.specs.declared.events.event.Event.TheVariants as events
use Rattle.world_pipes.specs.declared.events.schedule.TheConstants.{CONNACK_BYTES, CONNECT_BYTES}

-- the length of a CONNECT without its identifier, in bytes
abbrev pub connect_bytes : ℕ
connect_bytes = CONNECT_BYTES

-- the length of a CONNACK, in bytes
abbrev pub connack_bytes : ℕ
connack_bytes = CONNACK_BYTES

-- a client that holds a connection loses it
abbrev pub leaving : Bool → List ℕ → List Event
leaving true name = events.Abandon name ∷ []
leaving false name = []

-- a client loses the connection that it holds, opens another, and its CONNECT reaches the primary
abbrev pub client_events : Bool → List ℕ → ℕ → ℕ → ℕ → List Event
client_events holds name primary number bytes =
    leaving holds name ++ events.Open name primary ∷ events.CarryUp number bytes ∷ []

-- the other members hold the command and answer, and the CONNACK comes down
abbrev pub answer_events : ℕ → ℕ → ℕ → List Event
answer_events sent others number =
    map events.Deliver (asked_and_answered sent others)
    ++ events.CarryDown number connack_bytes ∷ []
