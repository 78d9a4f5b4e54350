-- What a stream begins with: a message in parts, a part of one, or a fault.
use Rattle.std.specs.Prelude.{◌≡◌, ℕ, ◌+◌, ◌-◌, ◌<◌, ◌≤◌, Bool, true, false, List, ◌++◌, length, take, drop}
use Rattle.links.specs.declared.frames.error.PartFault.{PartFault}
use Rattle.links.specs.declared.frames.error.JoinError.{JoinError}
use Rattle.links.specs.declared.frames.error.JoinError.TheVariants as errors
use Rattle.links.specs.declared.frames.head.Head.TheVariants.{Part, Unfinished, Fault}
use Rattle.links.specs.frames.Heads.{head_of}

pub data Front : Type 0 where
  -- a message, and these bytes after it
  whole : (message rest : List ℕ) → Front
  -- the beginning of a message
  unfinished : Front
  -- no message
  broken : PartFault → Front

-- the front to whose message these bytes belong as well
abbrev pub behind : List ℕ → Front → Front
behind bytes (whole message rest) = whole (bytes ++ message) rest
behind bytes unfinished = unfinished
behind bytes (broken fault) = broken fault

-- the bytes of a part after its head, and what follows the part
abbrev pub bytes_of : ℕ → List ℕ → List ℕ
bytes_of len stream = take len (drop 5 stream)

abbrev pub after : ℕ → List ℕ → List ℕ
after len stream = drop len (drop 5 stream)

-- the stream begins with this, if a message may have `room` bytes
pub data Begins : ℕ → List ℕ → Front → Type 0 where
  -- the head of a part has not come whole
  in_head : {room : ℕ} {stream : List ℕ} → head_of room stream ≡ Unfinished
      → Begins room stream unfinished
  -- there is no part
  faulty : {room : ℕ} {stream : List ℕ} {fault : PartFault}
      → head_of room stream ≡ Fault fault → Begins room stream (broken fault)
  -- the bytes of a part have not come whole
  in_part : {room len : ℕ} {stream : List ℕ} {more : Bool}
      → head_of room stream ≡ Part more len → length stream < 5 + len
      → Begins room stream unfinished
  -- there is a last part
  ends : {room len : ℕ} {stream : List ℕ}
      → head_of room stream ≡ Part false len → 5 + len ≤ length stream
      → Begins room stream (whole (bytes_of len stream) (after len stream))
  -- there is a part, and more of its message
  goes_on : {room len : ℕ} {stream : List ℕ} {front : Front}
      → head_of room stream ≡ Part true len → 5 + len ≤ length stream
      → Begins (room - len) (after len stream) front
      → Begins room stream (behind (bytes_of len stream) front)

-- a joiner: the most bytes of a message, the bytes that were fed and not yet taken, and whether a
-- fault was found
pub record Stream : Type 0 where
  pub limit : ℕ
  pub bytes : List ℕ
  pub failed : Bool

-- a message is taken
abbrev pub Gives : Stream → List ℕ → Stream → Type 0
Gives old message new =
    (old.failed ≡ false) × Begins old.limit old.bytes (whole message new.bytes)
    × (new ≡ record old { bytes = new.bytes })

-- no whole message is there
abbrev pub Waits : Stream → Stream → Type 0
Waits old new =
    (old.failed ≡ false) × Begins old.limit old.bytes unfinished × (new ≡ old)

-- a message of at least one byte is there, so that memory may be needed
pub record HasMessage (stream : Stream) : Type 0 where
  pub message : List ℕ
  pub rest : List ℕ
  pub begins : Begins stream.limit stream.bytes (whole message rest)
  pub some : 0 < length message

-- no message is taken, and why
abbrev pub Refuses : Stream → JoinError → Stream → Type 0
Refuses old (errors.Part fault) new =
    (old.failed ≡ false) × Begins old.limit old.bytes (broken fault)
    × (new ≡ record old { failed = true })
Refuses old errors.Memory new = (old.failed ≡ false) × HasMessage old × (new ≡ old)
Refuses old errors.Failed new = (old.failed ≡ true) × (new ≡ old)
