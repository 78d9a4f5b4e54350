-- What a proof needs of a move of one node, so that everything about other nodes is kept.
use Rattle.std.specs.Prelude.{ℕ, ◌+◌, ◌≤◌, ◌≡◌, ◌⊎◌, ◌==◌, List, length, slice_get, Option, Some}
use Rattle.std.specs.Prelude.{None, if◌then◌else◌}
use Rattle.agreement.specs.whole_logs.Messages.{Effect}
use Rattle.agreement.specs.whole_logs.Replica.{ReplicaState}
use Rattle.agreement.specs.World.{GroupWorld, moved}
use Rattle.lists.specs.Lists.{In, IsPrefixOf}
use Rattle.agreement.specs.Inside.Ballots.{Given, Line, History, Acknowledged, Sealed}

-- the history with other lists
abbrev pub with_lines : {C : Type 0} → History C → (ℕ → Option (Line C)) → History C
with_lines history line = record history { line = line }

-- how the list of a ballot may change: it grows in an activated ballot, or it begins as its base
pub data LineGoesOn {S C O : Type 0} (world : GroupWorld S C O) (history : History C) (ballot : ℕ)
    (line : Line C) : Type 0 where
  -- it stays
  stays : history.line ballot ≡ Some line → LineGoesOn world history ballot line
  -- the ballot is activated, and its list grows
  grows : (before : Line C) → history.line ballot ≡ Some before → line.base ≡ before.base →
      IsPrefixOf before.list line.list →
      In ballot history.activated →
      LineGoesOn world history ballot line
  -- the list begins as its base
  begins : (given : Given) → history.line ballot ≡ None → line.list ≡ line.base →
      history.given ballot ≡ Some given →
      Sealed world history given.previous line.base →
      ((earlier : Line C) × (history.line given.previous ≡ Some earlier)
      × IsPrefixOf line.base earlier.list) → LineGoesOn world history ballot line

-- a node acknowledges places of a ballot that it had not left and in which it holds its log
pub record TellsNow {S C : Type 0} (line : ℕ →
    Option (Line C)) (old new : ReplicaState S C) (ballot places : ℕ) : Type 0 where
  pub low : old.joined ≤ ballot
  pub held : ballot ≡ new.held_in
  pub short : places ≤ length new.log
  pub told : Line C
  pub lined : line ballot ≡ Some told
  pub within : places ≤ length told.list

-- a move of the node at an index: it returned to no lower ballot; only it acknowledged more, and in
-- no ballot that it had left
pub record MovesAt {S C O : Type 0} (world : GroupWorld S C O) (history : History C) (line : ℕ →
    Option (Line C)) (node : ℕ)
    (old new : ReplicaState S C) (given : List (Effect C O)) : Type 0 where
  pub stands : slice_get world.nodes node ≡ Some old
  pub rises : old.joined ≤ new.joined
  pub committed : old.committed ≤ new.committed
  pub goes_on : (ballot : ℕ) (longer : Line C) → line ballot ≡ Some longer →
      LineGoesOn world history ballot longer
  pub lines : (ballot : ℕ) (before : Line C) → history.line ballot ≡ Some before →
      (longer : Line C) × (line ballot ≡ Some longer) × (longer.base ≡ before.base)
      × IsPrefixOf before.list longer.list
  pub own : (ballot : ℕ) (assigned : Given) → history.given ballot ≡ Some assigned →
      (assigned.primary ≡ node + 1 → ⊥) → line ballot ≡ history.line ballot
  pub tells : (member ballot places : ℕ) →
      Acknowledged (moved world node new given) (with_lines history line) member ballot places →
      Acknowledged world history member ballot places
      ⊎ ((member ≡ node + 1) × TellsNow line old new ballot places)

-- the lists of the ballots, with another for one ballot
abbrev pub lined_at : {C : Type 0} → ℕ → Line C → (ℕ → Option (Line C)) → ℕ → Option (Line C)
lined_at ballot new line other = if other == ballot then Some new else line other

-- the ballots that were given, with one more
abbrev pub given_at : ℕ → Given → (ℕ → Option Given) → ℕ → Option Given
given_at ballot new given other = if other == ballot then Some new else given other
