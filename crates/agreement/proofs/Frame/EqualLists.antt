-- EqualLists.antt: equal lists begin one another.
use Rattle.std.proofs.Common.{◌≡◌, List, subst}
use Rattle.lists.specs.Lists.{IsPrefixOf}
use Rattle.lists.proofs.Prefixes.{prefix_same}

-- a list that equals another begins it
pub prefix_of_same : {X : Type 0} (xs ys : List X) → xs ≡ ys → IsPrefixOf xs ys
prefix_of_same {X = X} xs ys e = subst (λ (us : List X). IsPrefixOf xs us) e (prefix_same xs)
