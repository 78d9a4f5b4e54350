-- The effect of handling one packet, before the connection is dropped.
use Rattle.std.specs.Prelude.{◌≡◌, ℕ, ◌<◌, ◌⊎◌, Bool, true, false, if◌then◌else◌, List, [], ◌∷◌, ◌++◌}
use Rattle.std.specs.Prelude.{length, Option, Some, None, Result, Ok, Err}
use Rattle.packet.specs.declared.packet.Packet.{Packet}
use Rattle.packet.specs.declared.error.DecodeFault.{DecodeFault}
use Rattle.cutter.specs.declared.error.CutError.TheVariants as cuts
use Rattle.cutter.specs.Stream.{Stream, Takes}
use Rattle.client_base.specs.declared.error.ClientError.{ClientError}
use Rattle.client_base.specs.declared.error.ClientError.TheVariants as errors
use Rattle.client_base.specs.declared.unacknowledged_publication.UnacknowledgedPublication.{UnacknowledgedPublication}
use Rattle.client_base.specs.State.{ClientState, is_online, publish_kept}
use Rattle.client_base.specs.Answered.{ClientOutcome, going_on}
use Rattle.client_base.specs.Calls.{refused_call}
use Rattle.client_base.specs.Publications.{is_over_limit}
use Rattle.client.specs.Core.{Core, IsDone, NeedsMemory}
use Rattle.client.specs.Input.{ReadsPacket, outcome_of_packet, StopsFor, RunsOut, Handles, cause_of}
use Rattle.client.specs.Input.{fed}

-- the whole outcome takes effect; one that ends the connection changes nothing here
abbrev pub Tries : ClientOutcome → Core → Result (Unit {0}) ClientError → Core → Type 0
Tries outcome old (Ok done) new = (outcome.refusal ≡ None) × IsDone outcome old new
Tries outcome old (Err errors.Memory) new = NeedsMemory outcome old.state × (new ≡ old)
Tries outcome old (Err errors.SessionLost) new =
    (outcome.refusal ≡ Some errors.SessionLost) × IsDone outcome old new
Tries outcome old (Err cause) new = (outcome.refusal ≡ Some cause) × (new ≡ old)

-- one packet is read and handled, if there is one
abbrev pub ReadsOne : Core → Result Bool ClientError → Core → Type 0
ReadsOne old (Ok false) new = Takes old.unread (Ok None) old.unread × (new ≡ old)
ReadsOne old (Ok true) new =
    (packet : Packet) × (next : Core) × ReadsPacket old packet next
    × ((outcome_of_packet packet next).refusal ≡ None)
    × IsDone (outcome_of_packet packet next) next new
ReadsOne old (Err errors.Memory) new =
    RunsOut old × (new.state ≡ old.state) × (new.out ≡ old.out)
ReadsOne old (Err errors.SessionLost) new =
    (packet : Packet) × (next : Core) × ReadsPacket old packet next
    × ((outcome_of_packet packet next).refusal ≡ Some errors.SessionLost)
    × IsDone (outcome_of_packet packet next) next new
ReadsOne old (Err cause) new = StopsFor cause old × (new.state ≡ old.state) × (new.out ≡ old.out)

-- an outcome that writes nothing
abbrev pub quiet_outcome : ClientOutcome → Core → Core
quiet_outcome outcome core = record core { state = outcome.state }

-- the client with this state
abbrev pub with_state : ClientState → Core → Core
with_state state core = record core { state = state }

-- the client with these written bytes; its queued publications are sent
abbrev pub all_sent : List ℕ → Core → Core
all_sent bytes core =
    record core {
      state = record core.state { sent = core.state.sent ++ core.state.queued; queued = [] };
      out = bytes;
    }

-- how the reading of a chunk ends, before the connection is dropped
abbrev pub StopsAt : Core → Result (Unit {0}) ClientError → Core → Type 0
StopsAt core (Ok done) new = Takes core.unread (Ok None) core.unread × (new ≡ core)
StopsAt core (Err errors.Memory) new =
    RunsOut core × (new.state ≡ core.state) × (new.out ≡ core.out)
StopsAt core (Err errors.SessionLost) new =
    (packet : Packet) × (next : Core) × ReadsPacket core packet next
    × ((outcome_of_packet packet next).refusal ≡ Some errors.SessionLost)
    × IsDone (outcome_of_packet packet next) next new
StopsAt core (Err cause) new = StopsFor cause core × (new.state ≡ core.state) × (new.out ≡ core.out)

-- whole packets are handled, and then the call ends
abbrev pub HandlesPackets : Core → Result (Unit {0}) ClientError → Core → Type 0
HandlesPackets old result new = (last : Core) × Handles old last × StopsAt last result new

-- a chunk is appended to the unread bytes; memory may run out unless it is empty
abbrev pub Feeds : List ℕ → Core → Result (Unit {0}) ClientError → Core → Type 0
Feeds piece old (Ok done) new = new ≡ fed piece old
Feeds piece old (Err cause) new = (0 < length piece) × (cause ≡ errors.Memory) × (new ≡ old)

-- a chunk is appended, and its packets are handled
abbrev pub FeedsAndReads : List ℕ → Core → Result (Unit {0}) ClientError → Core → Type 0
FeedsAndReads piece old result new =
    ((0 < length piece) × (result ≡ Err errors.Memory) × (new ≡ old))
    ⊎ HandlesPackets (fed piece old) result new

-- whether the connection is lost after this result of a chunk
abbrev pub is_fatal : Result (Unit {0}) ClientError → Bool
is_fatal (Ok done) = false
is_fatal (Err errors.SessionLost) = false
is_fatal (Err cause) = true

-- the next whole packet, if there is one
abbrev pub TakesNext : Core → Result (Option Packet) ClientError → Core → Type 0
TakesNext old (Ok (Some packet)) new = ReadsPacket old packet new
TakesNext old (Ok None) new = Takes old.unread (Ok None) old.unread × (new ≡ old)
TakesNext old (Err errors.Memory) new =
    Takes old.unread (Err cuts.Memory) old.unread × (new ≡ old)
TakesNext old (Err cause) new =
    ((fault : DecodeFault) × (rest : Stream) × Takes old.unread (Err (cuts.Decode fault)) rest
    × (cause ≡ cause_of fault))
    × (new.state ≡ old.state) × (new.out ≡ old.out)

-- a publication is written, and kept as sent
abbrev pub sent_publication : UnacknowledgedPublication → ClientState → ClientOutcome
sent_publication kept state =
    going_on (record state { sent = state.sent ++ kept ∷ [] }) (publish_kept false kept ∷ [])

-- a publication that is not too large is kept, and sent at once if the client is online
abbrev pub kept_publication : UnacknowledgedPublication → ClientState → ClientOutcome
kept_publication kept state =
    if is_over_limit (publish_kept false kept) then refused_call errors.TooLarge state else
    if is_online state.stage then sent_publication kept state
    else going_on (record state { queued = state.queued ++ kept ∷ [] }) []
