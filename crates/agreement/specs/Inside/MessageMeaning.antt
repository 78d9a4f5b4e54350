-- What a message between nodes says, and when it is true.
use Rattle.std.specs.Prelude.{ℕ, ◌+◌, ◌<◌, ◌≤◌, ◌≡◌, ◌⊎◌, List, length, slice_get, Some}
use Rattle.agreement.specs.whole_logs.Messages.{Body}
use Rattle.agreement.specs.whole_logs.Messages.Body.{NewBallot, Join, State, Install, Installed, Activate}
use Rattle.agreement.specs.whole_logs.Messages.Body.{Activated, Superseded, Append, Held, Commit}
use Rattle.agreement.specs.whole_logs.Replica.{ReplicaState}
use Rattle.agreement.specs.World.{GroupWorld}
use Rattle.lists.specs.Lists.{In, IsPrefixOf}
use Rattle.agreement.specs.Inside.Ballots.{Given, Line, History, IsChosenIn, Sealed}

-- the node of a number has joined at least a ballot
abbrev pub HasJoined : {S C O : Type 0} → GroupWorld S C O → ℕ → ℕ → Type 0
HasJoined {S} {C} world number ballot =
    (node : ℕ) × (number ≡ node + 1)
    × ((replica : ReplicaState S C) × (slice_get world.nodes node ≡ Some replica)
    × (ballot ≤ replica.joined))

-- the ballot that a message names
pub record IsOf {C : Type 0} (history : History C) (ballot : ℕ) (assigned : Given) : Type 0 where
  pub given : history.given ballot ≡ Some assigned
  pub later : 0 < assigned.previous

-- a list that may be sent to the primary of a ballot to take, or that it has taken
abbrev pub IsOffered : {C : Type 0} → History C → ℕ → Given → List C → Type 0
IsOffered {C} history ballot given xs =
    ((before : Line C) × (history.line given.previous ≡ Some before) × IsPrefixOf xs before.list)
    ⊎ ((line : Line C) × (history.line ballot ≡ Some line) × IsPrefixOf line.base xs
    × IsPrefixOf xs line.list)

-- a member of a ballot other than its primary
abbrev pub IsOther : Given → ℕ → Type 0
IsOther given member = In member given.members × (member ≡ given.primary → ⊥)

-- what a message to a receiver says is true; a rejected ballot is below the active one, or was
-- superseded
abbrev pub SpeaksTruth : {S C O : Type 0} → GroupWorld S C O → History C → ℕ → ℕ → Body C → Type 0
SpeaksTruth world history to from (NewBallot ballot members previous old_members) =
    (given : Given) × IsOf history ballot given × (from ≡ 0) × (to ≡ given.primary)
    × (members ≡ given.members)
    × (previous ≡ given.previous)
    × ((old : Given) × (history.given previous ≡ Some old) × (old_members ≡ old.members))
SpeaksTruth world history to from (Join ballot previous) =
    (given : Given) × IsOf history ballot given × (from ≡ given.primary)
    × (previous ≡ given.previous) × HasJoined world from ballot
    × ((old : Given) × (history.given previous ≡ Some old) × In to old.members)
SpeaksTruth world history to from (State ballot xs) =
    (given : Given) × IsOf history ballot given × (to ≡ given.primary) × HasJoined world from ballot
    × HasJoined world to ballot
    × Sealed world history given.previous xs × IsOffered history ballot given xs
SpeaksTruth {S} {C} world history to from (Install ballot xs) =
    (given : Given) × IsOf history ballot given × (from ≡ given.primary) × IsOther given to
    × ((line : Line C) × (history.line ballot ≡ Some line) × (line.base ≡ xs))
SpeaksTruth {S} {C} world history to from (Installed ballot held) =
    (given : Given) × IsOf history ballot given × (to ≡ given.primary) × IsOther given from
    × ((line : Line C) × (history.line ballot ≡ Some line) × (held ≡ length line.base))
SpeaksTruth {S} {C} world history to from (Activate ballot) =
    (given : Given) × IsOf history ballot given × (from ≡ given.primary)
    × ((line : Line C) × (history.line ballot ≡ Some line)
    × IsChosenIn world history ballot (length line.base))
SpeaksTruth world history to from (Activated ballot) =
    (given : Given) × (history.given ballot ≡ Some given) × (to ≡ given.primary)
    × In ballot history.activated
SpeaksTruth world history to from (Superseded ballot) =
    (given : Given) × (history.given ballot ≡ Some given) × (to ≡ given.primary)
SpeaksTruth {S} {C} world history to from (Append ballot place command) =
    (given : Given) × (history.given ballot ≡ Some given) × (from ≡ given.primary)
    × IsOther given to × In ballot history.activated
    × ((line : Line C) × (history.line ballot ≡ Some line) × (length line.base ≤ place)
    × (slice_get line.list place ≡ Some command))
SpeaksTruth {S} {C} world history to from (Held ballot held) =
    (given : Given) × (history.given ballot ≡ Some given) × (to ≡ given.primary)
    × IsOther given from
    × ((line : Line C) × (history.line ballot ≡ Some line) × (length line.base ≤ held)
    × (held ≤ length line.list))
SpeaksTruth world history to from (Commit ballot held) =
    (given : Given) × (history.given ballot ≡ Some given) × (from ≡ given.primary)
    × IsOther given to × In ballot history.activated
    × IsChosenIn world history ballot held
