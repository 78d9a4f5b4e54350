-- Among.antt: a keeper that wrote nothing.
use Rattle.std.proofs.Common.{ℕ, List, ◌∷◌}
use Rattle.lists.specs.Lists.In.{there}
use Rattle.cluster.specs.desk.Keeping.{AreAmong}

pub nothing_written : (bytes : List ℕ) (stands : List (List ℕ)) → AreAmong stands (bytes ∷ stands)
nothing_written bytes stands = λ other i. there i
