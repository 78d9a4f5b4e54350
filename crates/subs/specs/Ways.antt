-- The nodes to which paths of levels lead, and what makes them a tree.
use Rattle.std.specs.Prelude.{◌≡◌, ℕ, Bool, true, false, [], ◌∷◌, Option, Some}
use Rattle.std.specs.Prelude.{option_and_then, if◌then◌else◌}
use Rattle.topics.specs.Text.{Levels}
use Rattle.topics.specs.Matching.{is_all}
use Rattle.subs.specs.Shape.{Children}

-- the node to which these levels lead from a node
abbrev pub reach : Children → ℕ → Levels → Option ℕ
reach child at [] = Some at
reach child at (level ∷ rest) = option_and_then (λ below. reach child below rest) (child at level)

-- the node to which these levels lead from the root
abbrev pub led : Children → Option ℕ → Levels → Option ℕ
led child root path = option_and_then (λ at. reach child at path) root

-- where the rows of a filter are: the levels to its node, and whether they are in `rest`
abbrev pub slot : Levels → Levels × Bool
slot [] = ([], false)
slot (level ∷ rest) =
    if is_all level rest then ([], true) else (level ∷ (slot rest).0, (slot rest).1)

-- no two paths lead to one node, and each node to which a path leads is in use
pub record IsTree (child : Children) (marked : ℕ → Bool) (root : Option ℕ) : Type 0 where
  pub one_way : (path other : Levels) (at : ℕ) → led child root path ≡ Some at
      → led child root other ≡ Some at → path ≡ other
  pub used : (path : Levels) (at : ℕ) → led child root path ≡ Some at → marked at ≡ true

-- some path leads to the node
abbrev pub IsReachedNode : Children → Option ℕ → ℕ → Type 0
IsReachedNode child root at = (path : Levels) × (led child root path ≡ Some at)
