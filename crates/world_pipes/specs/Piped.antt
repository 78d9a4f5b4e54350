-- What a `PipedClient` shows: the client, and its connections with the bytes in transit, the oldest
-- first; and what its calls do.
use Rattle.std.specs.Prelude.{◌≡◌, ℕ, ◌-◌, Bool, true, false, ◌⊎◌, List, [], ◌∷◌, ◌++◌, length, take, drop, Result, Ok, Err}
use Rattle.world_base.specs.declared.node_connections.port.Port.{Port}
use Rattle.client_base.specs.declared.error.ClientError.{ClientError}
use Rattle.client_base.specs.declared.error.ClientError.TheVariants as errors
use Rattle.client_base.specs.State.{is_open}
use Rattle.client_base.specs.Answered.{ClientOutcome}
use Rattle.client.specs.Core.{Core, AnswersCall, LeavesServer, OpensConnection, gone, new_core}
use Rattle.client.specs.Input.{OnBytes}
use Rattle.world_pipes.specs.declared.pair.PipePair.{PipePair}
use Rattle.world_pipes.specs.declared.sending.Sending.{Sending}
use Rattle.world_pipes.specs.declared.sending.Sending.TheVariants as sendings

-- a client, and its connections with the bytes in transit, the oldest first
pub record Piped : Type 0 where
  pub core : Core
  pub pairs : List PipePair

-- a `Piped` of a client and its connections
abbrev pub piped : Core → List PipePair → Piped
piped core pairs = record { core = core; pairs = pairs }

-- whether a client holds its newest connection
abbrev pub is_holding : Piped → Bool
is_holding client = is_open client.core.state.stage

-- the pipes of a new connection: nothing is in transit
abbrev pub new_pair : ℕ → Port → PipePair
new_pair node port = record { node = node; port = port; up = []; down = [] }

-- a client that was never connected
abbrev pub new_piped : List ℕ → Piped
new_piped client = piped (new_core client 0) []

-- ---- what is written goes up

-- what the client wrote was appended to the newest connection's pipe
abbrev pub piped_up : Core → List PipePair → PipePair → Piped
piped_up core older pair =
    piped (record core { out = [] }) (older ++ record pair { up = pair.up ++ core.out } ∷ [])

-- memory ran out for what the client wrote: the connection is lost
abbrev pub broken : Core → List PipePair → Piped
broken core pairs = piped (gone core) pairs

-- what a client wrote goes up on the last of its connections
abbrev pub GoesUp : Core → List PipePair → Sending → Piped → Type 0
GoesUp core pairs sendings.Sent new =
    (older : List PipePair) × (pair : PipePair) × (pairs ≡ older ++ pair ∷ [])
    × (new ≡ piped_up core older pair)
GoesUp core pairs sendings.Lost new = new ≡ broken core pairs

-- there is anything to send up only while a client holds a connection
abbrev pub GoesUpWhere : Bool → Core → List PipePair → Sending → Piped → Type 0
GoesUpWhere true core pairs sending new = GoesUp core pairs sending new
GoesUpWhere false core pairs sending new = (sending ≡ sendings.Sent) × (new ≡ piped core pairs)

-- ---- calls

-- A call is the client's, and what it writes goes up; one that the client refuses changes nothing.
abbrev pub Calls : ClientOutcome → Piped → Result Sending ClientError → Piped → Type 0
Calls outcome old (Ok sending) new =
    (core : Core) × AnswersCall outcome old.core (Ok tt) core
    × GoesUpWhere (is_holding old) core old.pairs sending new
Calls outcome old (Err cause) new =
    AnswersCall outcome old.core (Err cause) new.core × (new.pairs ≡ old.pairs)

-- disconnecting is a call like the others
abbrev pub TakesLeave : ClientOutcome → Piped → Result Sending ClientError → Piped → Type 0
TakesLeave outcome old (Ok sending) new =
    (core : Core) × LeavesServer outcome old.core (Ok tt) core × GoesUp core old.pairs sending new
TakesLeave outcome old (Err cause) new =
    LeavesServer outcome old.core (Err cause) new.core × (new.pairs ≡ old.pairs)

-- a client's CONNECT is all that is in transit on a new connection; only memory may run out, and
-- then there is no connection
abbrev pub SendsConnect :
    ℕ → Port → ClientOutcome → Piped → Result (Unit {0}) ClientError → Piped → Type 0
SendsConnect node port outcome old (Ok done) new =
    (core : Core) × OpensConnection outcome old.core (Ok tt) core
    × (new ≡ piped_up core old.pairs (new_pair node port))
SendsConnect node port outcome old (Err cause) new =
    (cause ≡ errors.Memory) × (new.pairs ≡ old.pairs)
    × ((new.core ≡ old.core)
    ⊎ ((core : Core) × OpensConnection outcome old.core (Ok tt) core × (new.core ≡ gone core)))

-- a connection that its node does not accept is removed: nothing is left of it
abbrev pub taken_back : Piped → Piped
taken_back client = piped (gone client.core) (take (length client.pairs - 1) client.pairs)

-- ---- receiving

-- the first bytes in transit to the client have come
abbrev pub come_down : ℕ → PipePair → PipePair
come_down count pair = record pair { down = drop count pair.down }

-- The first bytes on the newest connection reach the client, and what it writes goes up. If there
-- is no memory for that the answer is Memory, and the connection is lost.
pub record CarriesDown (count : ℕ) (old : Piped) (result : Result (Unit {0}) ClientError)
    (new : Piped) : Type 0 where
  pub older : List PipePair
  pub pair : PipePair
  pub newest : old.pairs ≡ older ++ pair ∷ []
  pub core : Core
  pub read : Result (Unit {0}) ClientError
  pub carried : OnBytes (take count pair.down) old.core.state.stage old.core read core
  pub goes_up :
      ((result ≡ read) × (new ≡ piped_up core older (come_down count pair)))
      ⊎ ((result ≡ Err errors.Memory) × (new ≡ broken core (older ++ come_down count pair ∷ [])))
