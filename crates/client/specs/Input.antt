-- Reading the server's bytes: packet by packet, up to the first that ends the call.
use Rattle.std.specs.Prelude.{◌≡◌, ℕ, ◌<◌, ◌⊎◌, List, ◌++◌, length, Some, None, Result, Ok, Err}
use Rattle.packet.specs.declared.packet.Packet.{Packet}
use Rattle.packet.specs.declared.error.DecodeFault.{DecodeFault}
use Rattle.packet.specs.declared.error.DecodeFault.TheVariants as faults
use Rattle.cutter.specs.declared.error.CutError.TheVariants as cuts
use Rattle.cutter.specs.Stream.{Stream, Takes}
use Rattle.client_base.specs.declared.error.ClientError.{ClientError}
use Rattle.client_base.specs.declared.error.ClientError.TheVariants as errors
use Rattle.client_base.specs.declared.stage.Stage.{Stage}
use Rattle.client_base.specs.declared.stage.Stage.TheVariants as stages
use Rattle.client_base.specs.Answered.{ClientOutcome}
use Rattle.client_base.specs.Calls.{client_receives}
use Rattle.client.specs.Core.{Core, IsDone, NeedsMemory, gone}

-- the outcome of a packet from the server
abbrev pub outcome_of_packet : Packet → Core → ClientOutcome
outcome_of_packet packet core = client_receives packet core.state.stage core.state

-- the first whole packet of the unread bytes, and the client without it
abbrev pub ReadsPacket : Core → Packet → Core → Type 0
ReadsPacket old packet new =
    Takes old.unread (Ok (Some packet)) new.unread × (new.state ≡ old.state) × (new.out ≡ old.out)

-- A sequence of whole packets, none with an error, leads from the first client to the second.
pub data Handles (start : Core) : Core → Type 0 where
  -- no packet
  none : Handles start start
  -- one more packet without an error
  more : {before read after : Core} (packet : Packet) → Handles start before
      → ReadsPacket before packet read → (outcome_of_packet packet read).refusal ≡ None
      → IsDone (outcome_of_packet packet read) read after → Handles start after

-- A fault of the stream: a CONNECT that is refused with a code is a packet that only a client
-- sends.
abbrev pub cause_of : DecodeFault → ClientError
cause_of (faults.Malformed kind) = errors.Malformed kind
cause_of (faults.Refused code) = errors.Protocol

-- the error with which reading stops here: a fault of the stream, or the error of the next packet
abbrev pub StopsFor : ClientError → Core → Type 0
StopsFor cause core =
    ((fault : DecodeFault) × (rest : Stream) × Takes core.unread (Err (cuts.Decode fault)) rest
    × (cause ≡ cause_of fault))
    ⊎ ((packet : Packet) × (next : Core) × ReadsPacket core packet next
    × ((outcome_of_packet packet next).refusal ≡ Some cause))

-- memory ran out here: for the texts or the list of the next packet, or for what that packet makes
-- the client write or accept
abbrev pub RunsOut : Core → Type 0
RunsOut core =
    Takes core.unread (Err cuts.Memory) core.unread
    ⊎ ((packet : Packet) × (next : Core) × ReadsPacket core packet next
    × NeedsMemory (outcome_of_packet packet next) next.state)

-- How the call ends. If the session is lost the connection survives, and what follows that CONNACK
-- stays unread; otherwise the connection is lost. The effects of earlier packets remain.
abbrev pub EndsWith : Core → Result (Unit {0}) ClientError → Core → Type 0
EndsWith core (Ok done) new = Takes core.unread (Ok None) core.unread × (new ≡ core)
EndsWith core (Err errors.Memory) new = RunsOut core × (new ≡ gone core)
EndsWith core (Err errors.SessionLost) new =
    (packet : Packet) × (next : Core) × ReadsPacket core packet next
    × ((outcome_of_packet packet next).refusal ≡ Some errors.SessionLost)
    × IsDone (outcome_of_packet packet next) next new
EndsWith core (Err cause) new = StopsFor cause core × (new ≡ gone core)

-- the chunk is appended to the unread bytes
abbrev pub fed : List ℕ → Core → Core
fed piece core = record core { unread = record core.unread { bytes = core.unread.bytes ++ piece } }

-- memory ran out for the chunk itself, which is not empty: nothing of it is read, and the
-- connection is lost
abbrev pub LacksRoom : List ℕ → Core → Result (Unit {0}) ClientError → Core → Type 0
LacksRoom piece old result new =
    (0 < length piece) × (result ≡ Err errors.Memory) × (new ≡ gone old)

-- the effect of a chunk of the server's bytes
abbrev pub OnBytes : List ℕ → Stage → Core → Result (Unit {0}) ClientError → Core → Type 0
OnBytes piece stages.Closed old result new = (result ≡ Err errors.NotActive) × (new ≡ old)
OnBytes piece stage old result new =
    LacksRoom piece old result new
    ⊎ ((last : Core) × Handles (fed piece old) last × EndsWith last result new)
