-- Theorems about streams of parts, proved by `src/theorems.rt`.
use Rattle.std.specs.Prelude.{◌≡◌, ℕ, ◌≤◌, List, [], ◌∷◌, ◌++◌, length, flat_map}
use Rattle.lists.specs.Lists.{Each, IsPrefixOf}
use Rattle.links.specs.frames.Parts.{parts_of}
use Rattle.links.specs.frames.Fronts.{Front, Begins}
use Rattle.links.specs.frames.Fronts.Front.{whole, unfinished}

-- a stream begins with one thing alone
abbrev pub OneFront : Type 0
OneFront = (room : ℕ) (stream : List ℕ) (front other : Front)
    → Begins room stream front → Begins room stream other → front ≡ other

-- every stream begins with a message, a beginning of one, or a fault
abbrev pub EveryStreamBegins : Type 0
EveryStreamBegins = (room : ℕ) (stream : List ℕ) → (front : Front) × Begins room stream front

-- the parts of a message are joined to this message
abbrev pub PartsAreOneMessage : Type 0
PartsAreOneMessage = (room : ℕ) (message rest : List ℕ) → length message ≤ room
    → Begins room (parts_of message ++ rest) (whole message rest)

-- no message's parts begin another's
abbrev pub NoMessageBeginsAnother : Type 0
NoMessageBeginsAnother = (message other rest left : List ℕ)
    → parts_of message ++ rest ≡ parts_of other ++ left → (message ≡ other) × (rest ≡ left)

-- A joiner after a sequence of calls: all bytes that it was fed, in chunks of any size, the
-- messages that it returned, and the bytes that it has not taken. A call that returns no message
-- needs no case.
pub data Joined (limit : ℕ) : List ℕ → List (List ℕ) → List ℕ → Type 0 where
  -- no call yet
  opens : Joined limit [] [] []
  -- a chunk is fed
  feeds : {fed held : List ℕ} {given : List (List ℕ)} (chunk : List ℕ)
      → Joined limit fed given held → Joined limit (fed ++ chunk) given (held ++ chunk)
  -- `next` returns a message
  gives : {fed held rest : List ℕ} {given : List (List ℕ)} (message : List ℕ)
      → Joined limit fed given held → Begins limit held (whole message rest)
      → Joined limit fed (given ++ message ∷ []) rest

-- what the parts of messages are joined to, if only a prefix of their bytes is fed, is a prefix of
-- these messages
abbrev pub WhatIsJoinedWasCut : Type 0
WhatIsJoinedWasCut = (limit : ℕ) (messages given : List (List ℕ)) (fed later held : List ℕ)
    → Each (λ message. length message ≤ limit) messages
    → fed ++ later ≡ flat_map parts_of messages
    → Joined limit fed given held → IsPrefixOf given messages

-- once all bytes are fed and no message is left, it is all of these messages
abbrev pub WhatWasCutIsJoined : Type 0
WhatWasCutIsJoined = (limit : ℕ) (messages given : List (List ℕ)) (held : List ℕ)
    → Each (λ message. length message ≤ limit) messages
    → Joined limit (flat_map parts_of messages) given held → Begins limit held unfinished
    → (given ≡ messages) × (held ≡ [])

-- the front is no message
abbrev pub HasNoMessage : Front → Type 0
HasNoMessage front = (message rest : List ℕ) → front ≡ whole message rest → ⊥

-- two joiners that were fed the same bytes, split anywhere, and have no message left, returned the
-- same messages and hold the same bytes
abbrev pub JoiningsAgree : Type 0
JoiningsAgree = (limit : ℕ) (fed held left : List ℕ) (given others : List (List ℕ))
    (front other : Front)
    → Joined limit fed given held → Begins limit held front → HasNoMessage front
    → Joined limit fed others left → Begins limit left other → HasNoMessage other
    → (given ≡ others) × (held ≡ left)
