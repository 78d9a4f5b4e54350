-- What stays true in a later world; no node acknowledges more than its ballot has.
use Rattle.std.specs.Prelude.{ℕ, ◌+◌, ◌≤◌, ◌≡◌, ◌⊎◌, length, slice_get, Some}
use Rattle.agreement.specs.whole_logs.Messages.{Message}
use Rattle.agreement.specs.whole_logs.Replica.{ReplicaState}
use Rattle.agreement.specs.World.{GroupWorld}
use Rattle.lists.specs.Lists.{In, IsPrefixOf}
use Rattle.agreement.specs.Inside.Ballots.{Given, Line, History, Acknowledged}

-- a later world: what was output or acknowledged stays, no node returns to a lower ballot, and none
-- acknowledges in a ballot that it has left
pub record Extends {S C O : Type 0} (world : GroupWorld S C O) (history : History C)
    (next : GroupWorld S C O) (continued : History C) : Type 0 where
  pub sent : (row : ℕ × Message C) → In row world.sent → In row next.sent
  pub nodes : (node : ℕ) (replica : ReplicaState S C) → slice_get world.nodes node ≡ Some replica →
      (after : ReplicaState S C) × (slice_get next.nodes node ≡ Some after)
      × (replica.joined ≤ after.joined)
  pub given : (ballot : ℕ) (assigned : Given) → history.given ballot ≡ Some assigned →
      continued.given ballot ≡ Some assigned
  pub lines : (ballot : ℕ) (line : Line C) → history.line ballot ≡ Some line →
      (longer : Line C) × (continued.line ballot ≡ Some longer) × (longer.base ≡ line.base)
      × IsPrefixOf line.list longer.list
  -- a node that acknowledges more in a ballot has not left it
  pub told : (node ballot places : ℕ) (replica : ReplicaState S C) →
      slice_get world.nodes node ≡ Some replica →
      Acknowledged next continued (node + 1) ballot places →
      Acknowledged world history (node + 1) ballot places ⊎ (replica.joined ≤ ballot)

-- what is acknowledged lies within the ballot's list
abbrev pub AcknowledgedIsWithin : {S C O : Type 0} → GroupWorld S C O → History C → Type 0
AcknowledgedIsWithin {S = S} {C = C} world history =
    (member ballot places : ℕ) (line : Line C) → history.line ballot ≡ Some line →
    Acknowledged world history member ballot places →
    places ≤ length line.list
