-- The value of a `ClientCore` in contracts: its state, its unread bytes and its written bytes; and
-- what its calls do.
use Rattle.std.specs.Prelude.{◌≡◌, ◌≢◌, ◌<◌, ◌⊎◌, ℕ, Bool, false, List, [], ◌∷◌, length, Some, None}
use Rattle.std.specs.Prelude.{Result, Ok, Err}
use Rattle.packet_base.specs.declared.qos.QoS.{QoS}
use Rattle.packet.specs.declared.packet.Packet.{Packet}
use Rattle.packet.specs.Spelling.{AppendsSpelling}
use Rattle.cutter.specs.Stream.{Stream}
use Rattle.session_base.specs.declared.publication.Publication.{Publication}
use Rattle.client_base.specs.declared.error.ClientError.{ClientError}
use Rattle.client_base.specs.declared.error.ClientError.TheVariants as errors
use Rattle.client_base.specs.State.{ClientState, new_client_state, lost}
use Rattle.client_base.specs.Answered.{ClientOutcome}

-- a client between two calls
pub record Core : Type 0 where
  pub state : ClientState
  pub unread : Stream  -- bytes from the server that are not yet handled
  pub out : List ℕ  -- bytes that it wrote and has not yet handed over

-- no byte was received yet
abbrev pub nothing_read : Stream
nothing_read = record { bytes = []; failed = false }

-- a new client: it never was connected, has read nothing, and has nothing to write
abbrev pub new_core : List ℕ → ℕ → Core
new_core client keep_alive =
    record { state = new_client_state client keep_alive; unread = nothing_read; out = [] }

-- new is old with the bytes of these packets appended, in order
abbrev pub AppendsAll : List ℕ → List ℕ → List Packet → Type 0
AppendsAll old new [] = new ≡ old
AppendsAll old new (packet ∷ packets) =
    (between : List ℕ) × AppendsSpelling old between packet × AppendsAll between new packets

-- the step is done: its state, and its packets appended to the written bytes
abbrev pub IsDone : ClientOutcome → Core → Core → Type 0
IsDone outcome old new =
    (new.state ≡ outcome.state) × AppendsAll old.out new.out outcome.writes
    × (new.unread ≡ old.unread)

-- the step writes a packet, or the client queues or accepts one more publication; its other lists
-- grow only when it writes
abbrev pub Grows : ClientOutcome → ClientState → Type 0
Grows outcome before =
    (outcome.writes ≢ [])
    ⊎ ((length before.queued < length outcome.state.queued)
    ⊎ (length before.accepted < length outcome.state.accepted))

-- memory may run out: the step is not refused, and something grows
abbrev pub NeedsMemory : ClientOutcome → ClientState → Type 0
NeedsMemory outcome before = (outcome.refusal ≡ None) × Grows outcome before

-- A call is the whole step with its error. If memory runs out nothing changes.
abbrev pub AnswersCall : ClientOutcome → Core → Result (Unit {0}) ClientError → Core → Type 0
AnswersCall outcome old (Ok done) new = (outcome.refusal ≡ None) × IsDone outcome old new
AnswersCall outcome old (Err errors.Memory) new = NeedsMemory outcome old.state × (new ≡ old)
AnswersCall outcome old (Err cause) new = (outcome.refusal ≡ Some cause) × (new ≡ old)

-- the connection is lost: written bytes stay, unread ones are dropped
abbrev pub gone : Core → Core
gone core = record core { state = lost core.state; unread = nothing_read }

-- the client opens a connection: CONNECT is the first packet that is written on it, and memory may
-- run out for it
abbrev pub OpensConnection : ClientOutcome → Core → Result (Unit {0}) ClientError → Core → Type 0
OpensConnection outcome old (Ok done) new =
    (new.state ≡ outcome.state) × AppendsAll [] new.out outcome.writes × (new.unread ≡ nothing_read)
OpensConnection outcome old (Err cause) new = (cause ≡ errors.Memory) × (new ≡ old)

-- the client disconnects: like a call, but the unread bytes are dropped
abbrev pub LeavesServer : ClientOutcome → Core → Result (Unit {0}) ClientError → Core → Type 0
LeavesServer outcome old (Ok done) new =
    (outcome.refusal ≡ None) × (new.state ≡ outcome.state)
    × AppendsAll old.out new.out outcome.writes
    × (new.unread ≡ nothing_read)
LeavesServer outcome old (Err errors.Memory) new = NeedsMemory outcome old.state × (new ≡ old)
LeavesServer outcome old (Err cause) new = (outcome.refusal ≡ Some cause) × (new ≡ old)

-- the accepted publications are taken
abbrev pub without_accepted : Core → Core
without_accepted core = record core { state = record core.state { accepted = [] } }

-- a publication with these parts
abbrev pub publication_with : Bool → QoS → List ℕ → List ℕ → Publication
publication_with retain qos topic payload =
    record { retain = retain; qos = qos; topic = topic; payload = payload }
