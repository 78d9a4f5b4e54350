-- The wildcards of what is left are in place if those of the whole text are.
use Rattle.std.proofs.Common.{◌≡◌, length}
use Rattle.topics.specs.Text.{levels, levels_of, has_wildcards_in_place}
use Rattle.topics.proofs.filter.has_wildcards_in_place.Given as goal

abbrev pub invariant-loop-rest : goal.invariant-loop-rest
invariant-loop-rest l =
    has_wildcards_in_place (levels l.fn.text) ≡ has_wildcards_in_place (levels_of l.rest)

abbrev pub decreases-loop-rest : goal.decreases-loop-rest
decreases-loop-rest l = length (levels_of l.rest)
