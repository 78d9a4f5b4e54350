-- Where a ballot begins in its list.
use Rattle.std.specs.Prelude.{ℕ, ◌<◌, ◌≡◌, ◌⊎◌, length, slice_get, Some}
use Rattle.ballot_base.specs.declared.status.Role.TheVariants.{Active}
use Rattle.agreement.specs.whole_logs.Replica.{ReplicaState}
use Rattle.agreement.specs.World.{GroupWorld}
use Rattle.agreement.specs.Inside.Ballots.{Line, History}

-- a ballot's list is its base, or has the ballot's start after it; the first ballot has none
abbrev pub AreBegun : {C : Type 0} → (ℕ → C) → History C → Type 0
AreBegun {C = C} start_of history =
    (ballot : ℕ) (line : Line C) → history.line ballot ≡ Some line →
    (ballot ≡ 1) ⊎ ((line.list ≡ line.base)
    ⊎ (slice_get line.list (length line.base) ≡ Some (start_of ballot)))

-- what may be added to a ballot's list: its start, or anything if the list is longer than its base
-- or the ballot is the first
abbrev pub BeginsOrFollows : {C : Type 0} → (ℕ → C) → History C → ℕ → C → Type 0
BeginsOrFollows {C = C} start_of history ballot command =
    (command ≡ start_of ballot)
    ⊎ ((line : Line C) → history.line ballot ≡ Some line → line.list ≡ line.base → ballot ≡ 1)

-- the list of a ballot that has an active primary is longer than its base, but in the first ballot
abbrev pub AreLong : {S C O : Type 0} → GroupWorld S C O → History C → Type 0
AreLong {S = S} {C = C} world history =
    (node : ℕ) (replica : ReplicaState S C) → slice_get world.nodes node ≡ Some replica →
    replica.role ≡ Active →
    (replica.joined ≡ 1)
    ⊎ ((line : Line C) → history.line replica.joined ≡ Some line →
    length line.base < length line.list)
