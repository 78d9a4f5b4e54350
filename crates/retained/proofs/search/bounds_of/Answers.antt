-- The bounds are in order.
use Rattle.retained.proofs.InRange.{forward}
use Rattle.retained.proofs.search.bounds_of.Goals as goal

pub returns-in-Some-clause-forward : goal.returns-in-Some-clause-forward
returns-in-Some-clause-forward c =
    forward c.args.filter.now c.in-Some.first c.in-Some.end c.in-Some.ensures
