-- Ballots and their lists, and what nodes have acknowledged of them.
use Rattle.std.specs.Prelude.{ℕ, ◌+◌, ◌<◌, ◌≤◌, ◌≡◌, List, length, take, slice_get}
use Rattle.std.specs.Prelude.{Option, Some}
use Rattle.agreement.specs.whole_logs.Messages.Body.{Held, Installed}
use Rattle.agreement.specs.whole_logs.Replica.{ReplicaState}
use Rattle.agreement.specs.World.{GroupWorld}
use Rattle.lists.specs.Lists.{In, IsPrefixOf}

-- a ballot as the master gave it; ballot 1 has the previous ballot 0
pub record Given : Type 0 where
  pub members : List ℕ
  pub primary : ℕ
  pub previous : ℕ

-- what a ballot's primary installed, and the longest list that it held there
pub record Line (C : Type 0) : Type 0 where
  pub base : List C
  pub list : List C

-- the ballots that were given, those that were activated, the newest first, and their lists
pub record History (C : Type 0) : Type 0 where
  pub given : ℕ → Option Given
  pub activated : List ℕ
  pub line : ℕ → Option (Line C)

-- a member has acknowledged this many places of the ballot's list
pub data Acknowledged {S C O : Type 0} (world : GroupWorld S C O) (history : History C)
    (member ballot places : ℕ) : Type 0 where
  -- nothing of ballot 1 at its opening
  told_at_opening : (given : Given) → ballot ≡ 1 → places ≡ 0 → history.given 1 ≡ Some given →
      In member given.members → Acknowledged world history member ballot places
  -- it sent a Held with at least this length
  told_by_held : (receiver held : ℕ) →
      In (receiver, record { from = member; body = Held ballot held }) world.sent →
      places ≤ held → Acknowledged world history member ballot places
  -- it sent an Installed with at least this length
  told_by_installed : (receiver held : ℕ) →
      In (receiver, record { from = member; body = Installed ballot held }) world.sent →
      places ≤ held → Acknowledged world history member ballot places
  -- it is the primary: all of its list
  told_as_primary : (given : Given) (line : Line C) → history.given ballot ≡ Some given →
      given.primary ≡ member → history.line ballot ≡ Some line → places ≤ length line.list →
      Acknowledged world history member ballot places

-- a node acknowledges in the ballot in which it holds its log, and no more than its log has
pub record TellsHere {S C O : Type 0} (world : GroupWorld S C O) (member ballot places : ℕ) :
    Type 0 where
  pub node : ℕ
  pub replica : ReplicaState S C
  pub number : member ≡ node + 1
  pub stands : slice_get world.nodes node ≡ Some replica
  pub held : ballot ≡ replica.held_in
  pub short : places ≤ length replica.log

-- every member of the ballot has acknowledged this many places
abbrev pub IsChosenIn : {S C O : Type 0} → GroupWorld S C O → History C → ℕ → ℕ → Type 0
IsChosenIn world history ballot places =
    (given : Given) × (history.given ballot ≡ Some given)
    × ((member : ℕ) → In member given.members → Acknowledged world history member ballot places)

-- some member has left the ballot of this number for good, and all that it acknowledged there is a
-- prefix of the list
pub record Sealed {S C O : Type 0} (world : GroupWorld S C O) (history : History C) (number : ℕ)
    (list : List C) : Type 0 where
  pub node : ℕ
  pub ballot : Given
  pub line : Line C
  pub replica : ReplicaState S C
  pub given : history.given number ≡ Some ballot
  pub member : In (node + 1) ballot.members
  pub lined : history.line number ≡ Some line
  pub stands : slice_get world.nodes node ≡ Some replica
  pub gone : number < replica.joined
  pub covers : (places : ℕ) → Acknowledged world history (node + 1) number places →
      IsPrefixOf (take places line.list) list
