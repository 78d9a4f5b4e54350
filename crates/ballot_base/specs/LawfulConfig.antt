-- Which members and primary a ballot may have.
use Rattle.std.specs.Prelude.{ℕ, Bool, true, List, [], ◌∷◌, length, ◌&&◌, ◌==◌, nat_lt, nat_le}
use Rattle.std.specs.List.{list_any}
use Rattle.ballot_base.specs.declared.config.TheConstants.{MAX_MEMBERS, MAX_NODE, MAX_NUMBER}

-- the greatest number of a node in a table, a script or a world
abbrev pub max_node : ℕ
max_node = MAX_NODE

-- the greatest number of a node in any cluster
abbrev pub max_number : ℕ
max_number = MAX_NUMBER

-- the most members a ballot has
abbrev pub max_members : ℕ
max_members = MAX_MEMBERS

-- the numbers rise strictly from above `last`, up to the greatest
abbrev pub are_rising : ℕ → ℕ → List ℕ → Bool
are_rising greatest last [] = true
are_rising greatest last (member ∷ members) =
    (nat_lt last member && nat_le member greatest) && are_rising greatest member members

-- 1 to 7 members, strictly rising, each from 1 to the greatest, and the primary is one of them
abbrev pub is_lawful : ℕ → List ℕ → ℕ → Bool
is_lawful greatest members primary =
    are_rising greatest 0 members
    && (nat_le 1 (length members)
    && (nat_le (length members) max_members && list_any (λ member. member == primary) members))
