-- Invariants of the ballots of a history, of their lists, and of the nodes in them.
use Rattle.std.specs.Prelude.{ℕ, ◌+◌, ◌<◌, ◌≤◌, ◌≡◌, ◌⊎◌, List, [], ◌∷◌, length, take, Some}
use Rattle.agreement.specs.whole_logs.Replica.{ReplicaState}
use Rattle.agreement.specs.World.{GroupWorld}
use Rattle.lists.specs.Lists.{In, IsPrefixOf}
use Rattle.agreement.specs.Inside.Ballots.{Given, Line, History, Acknowledged, IsChosenIn, Sealed}

-- each activated ballot was given while the next older one was active
abbrev pub IsChain : {C : Type 0} → History C → List ℕ → Type 0
IsChain history [] = ⊥
IsChain history (ballot ∷ []) = ballot ≡ 1
IsChain history (ballot ∷ (previous ∷ older)) =
    ((given : Given) × (history.given ballot ≡ Some given) × (given.previous ≡ previous)
    × (0 < previous) × (previous < ballot))
    × IsChain history (previous ∷ older)

-- the invariants of ballots: the earlier ballot was active, and none was activated in between
pub record AreBallots {C : Type 0} (history : History C) : Type 0 where
  pub chain : IsChain history history.activated
  pub first : (ballot : ℕ) (given : Given) → history.given ballot ≡ Some given →
      (ballot ≡ 1) ⊎ (0 < given.previous)
  pub previous : (ballot : ℕ) (given : Given) → history.given ballot ≡ Some given →
      0 < given.previous → In given.previous history.activated × (given.previous < ballot)
  pub gap : (ballot : ℕ) (given : Given) → history.given ballot ≡ Some given →
      0 < given.previous → (earlier : ℕ) → In earlier history.activated →
      earlier < ballot → earlier ≤ given.previous
  pub were_given : (ballot : ℕ) → In ballot history.activated →
      (given : Given) × (history.given ballot ≡ Some given) × (0 < ballot)
  -- a ballot's primary is one of its members
  pub led : (ballot : ℕ) (given : Given) → history.given ballot ≡ Some given →
      In given.primary given.members

-- the invariants of a ballot's lists
pub record BallotListsStand {S C O : Type 0} (world : GroupWorld S C O) (history : History C) :
    Type 0 where
  pub lined : (ballot : ℕ) (line : Line C) → history.line ballot ≡ Some line →
      (given : Given) × (history.given ballot ≡ Some given)
  pub prefix : (ballot : ℕ) (line : Line C) → history.line ballot ≡ Some line →
      IsPrefixOf line.base line.list
  pub sealed : (ballot : ℕ) (given : Given) (line : Line C) →
      history.given ballot ≡ Some given → 0 < given.previous → history.line ballot ≡ Some line →
      Sealed world history given.previous line.base
  pub base_in : (ballot : ℕ) (given : Given) (line : Line C) →
      history.given ballot ≡ Some given → 0 < given.previous → history.line ballot ≡ Some line →
      (before : Line C) × (history.line given.previous ≡ Some before)
      × IsPrefixOf line.base before.list
  pub still : (ballot : ℕ) (line : Line C) → history.line ballot ≡ Some line →
      (In ballot history.activated ⊎ (line.list ≡ line.base))
  pub told : (ballot : ℕ) → In ballot history.activated →
      (line : Line C) × (history.line ballot ≡ Some line)
      × IsChosenIn world history ballot (length line.base)

-- the invariants of a node that the lemmas need
pub record IsPlaced {S C O : Type 0} (world : GroupWorld S C O) (history : History C) (node : ℕ)
    (replica : ReplicaState S C) : Type 0 where
  pub order : replica.held_in ≤ replica.joined
  pub between : 0 < replica.held_in →
      (given : Given) × (history.given replica.held_in ≡ Some given)
      × ((line : Line C) × (history.line replica.held_in ≡ Some line)
      × IsPrefixOf line.base replica.log × IsPrefixOf replica.log line.list)
  pub told : (ballot places : ℕ) → Acknowledged world history (node + 1) ballot places →
      ballot ≤ replica.held_in
  pub acknowledged_here : (places : ℕ) →
      Acknowledged world history (node + 1) replica.held_in places →
      places ≤ length replica.log

-- what a node applied is chosen in an activated ballot that is not above the one that it joined
pub data Applied {S C O : Type 0} (world : GroupWorld S C O) (history : History C)
    (replica : ReplicaState S C) : Type 0 where
  nothing : replica.committed ≡ 0 → Applied world history replica  -- it applied nothing
  -- this ballot is one
  in_ballot : (ballot places : ℕ) (line : Line C) → In ballot history.activated →
      ballot ≤ replica.joined → history.line ballot ≡ Some line →
      IsChosenIn world history ballot places →
      IsPrefixOf (take replica.committed replica.log) (take places line.list) →
      Applied world history replica
