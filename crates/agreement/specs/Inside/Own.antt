-- The commands that were proposed in one ballot are in each log in the order of their proposals.
use Rattle.std.specs.Prelude.{ℕ, Bool, ◌≡◌, List, filter, Some}
use Rattle.lists.specs.Lists.{In, IsPrefixOf}
use Rattle.agreement.specs.Proposals.{commands_of, IsOfBallot}
use Rattle.agreement.specs.Inside.Ballots.{Line, History}

-- each ballot's list has of them a prefix of their order of proposing, and that of their own ballot
-- has all
pub record OwnLines {C : Type 0} (start_of : ℕ → C) (history : History C) (proposals : List (ℕ
    × C)) : Type 0 where
  pub lined : (row : ℕ × C) → In row proposals → (line : Line C) × (history.line row.0 ≡ Some line)
  pub own : (names : C → Bool) (ballot : ℕ) → IsOfBallot start_of names ballot proposals →
      (other : ℕ) (line : Line C) → history.line other ≡ Some line →
      IsPrefixOf (filter names line.list) (filter names (commands_of proposals))
      × (other ≡ ballot → filter names line.list ≡ filter names (commands_of proposals))
