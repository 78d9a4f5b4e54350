-- HandledBefore.antt: what was handled before a packet that ends a call stays handled.
use Rattle.std.proofs.Common.{◌≡◌, ℕ, ◌<◌, ◌⊎◌, inl, inr, true, false, if◌then◌else◌, List, length, Result, Ok, Err, refl, ap, ap₂}
use Rattle.std.proofs.lemmas.Bool.{both_ways}
use Rattle.client_base.specs.declared.error.ClientError.{ClientError}
use Rattle.client_base.specs.declared.error.ClientError.TheVariants as errors
use Rattle.client_base.specs.declared.stage.Stage.{Stage}
use Rattle.client_base.specs.declared.stage.Stage.TheVariants as stages
use Rattle.client_base.specs.State.{is_open, lost}
use Rattle.client.specs.Core.{Core, nothing_read, gone}
use Rattle.client.specs.Input.{Handles, EndsWith, LacksRoom, OnBytes, fed}
use Rattle.client.specs.Inside.PacketSteps.{ReadsOne, StopsAt, FeedsAndReads, Feeds, is_fatal}

-- one packet more
pub handled_more : (start s u : Core) → Handles start s → ReadsOne s (Ok true) u → Handles start u
handled_more start s u before one = Handles.more one.0 before one.2 one.3 one.4

-- the loss of a connection is the same for clients that differ in what they did not read
gone_alike : (last new : Core) → new.state ≡ last.state → new.out ≡ last.out → gone new ≡ gone last
gone_alike last new state out =
    ap₂ (λ s o. record { state = lost s; unread = nothing_read; out = o }) state out

-- ---- the end of a call

ends : (last mid : Core) (result : Result (Unit {0}) ClientError) → StopsAt last result mid
    → EndsWith last result (if is_fatal result then gone mid else mid)
ends last mid (Ok done) stops = stops
ends last mid (Err errors.Memory) stops = (stops.0, gone_alike last mid stops.1 stops.2)
ends last mid (Err errors.SessionLost) stops = stops
ends last mid (Err errors.NotActive) stops = (stops.0, gone_alike last mid stops.1 stops.2)
ends last mid (Err errors.WindowFull) stops = (stops.0, gone_alike last mid stops.1 stops.2)
ends last mid (Err errors.TooLarge) stops = (stops.0, gone_alike last mid stops.1 stops.2)
ends last mid (Err errors.Protocol) stops = (stops.0, gone_alike last mid stops.1 stops.2)
ends last mid (Err (errors.Malformed kind)) stops = (stops.0, gone_alike last mid stops.1 stops.2)

-- a piece for which there was no memory
lacks : (piece : List ℕ) (old mid : Core) (result : Result (Unit {0}) ClientError) → 0 < length piece → result ≡ Err errors.Memory
    → mid ≡ old → LacksRoom piece old result (if is_fatal result then gone mid else mid)
lacks piece old mid result some is same =
    (some, is, ap₂ (λ fatal core. if fatal then gone core else core) (ap is_fatal is) same)

open_so : (piece : List ℕ) (old mid : Core) (result : Result (Unit {0}) ClientError) → FeedsAndReads piece old result mid
    → LacksRoom piece old result (if is_fatal result then gone mid else mid)
    ⊎ ((last : Core) × Handles (fed piece old) last × EndsWith last result (if is_fatal result then gone mid else mid))
open_so piece old mid result (inl (some, is, same)) = inl (lacks piece old mid result some is same)
open_so piece old mid result (inr (last, handles, stops)) = inr (last, handles, ends last mid result stops)

pub read_so : (piece : List ℕ) (stage : Stage) (old mid : Core) (result : Result (Unit {0}) ClientError) → is_open stage ≡ true
    → FeedsAndReads piece old result mid → OnBytes piece stage old result (if is_fatal result then gone mid else mid)
read_so piece stages.Closed old mid result up takes = absurd (both_ways false refl up)
read_so piece stages.Opened old mid result up takes = open_so piece old mid result takes
read_so piece stages.Online old mid result up takes = open_so piece old mid result takes

-- a piece that was not appended
pub unfed : (piece : List ℕ) (old mid : Core) (cause : ClientError) → Feeds piece old (Err cause) mid → FeedsAndReads piece old (Err cause) mid
unfed piece old mid cause feeds = inl (feeds.0, ap Err feeds.1, feeds.2)
