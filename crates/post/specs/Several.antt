-- Which nodes are in a node's program, and whether its ballots may have other members.
use Rattle.std.specs.Prelude.{ℕ, ◌==◌, Bool, true, nat_lt, length}
use Rattle.post.specs.Numbers.{is_node}
use Rattle.post.specs.declared.neighbours.Neighbours.{Neighbours}
use Rattle.post.specs.declared.neighbours.Neighbours.TheVariants.{InProgram, ByLinks}

-- the node of this number is in the node's program
abbrev pub has_node : {H : Type 0} → Neighbours H → ℕ → Bool
has_node (InProgram cluster) number = is_node cluster.now number
has_node (ByLinks node) number = node.now.number == number

-- there are other nodes in the node's program, or links to other programs
abbrev pub has_several : {H : Type 0} → Neighbours H → Bool
has_several (InProgram cluster) = nat_lt 1 (length cluster.now)
has_several (ByLinks node) = true
