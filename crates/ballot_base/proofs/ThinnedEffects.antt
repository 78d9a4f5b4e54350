-- ThinnedEffects.antt: lists of effects with messages missing are joined end to end.
use Rattle.std.proofs.Common.{List, [], ◌∷◌, ◌++◌}
use Rattle.ballot_base.specs.declared.message.Effect.{Effect}
use Rattle.ballot_base.specs.Losses.{Thinned}
use Rattle.ballot_base.specs.Losses.Thinned.{none, keeps, loses}

-- nothing need be missing
pub Thinned-same : {C O : Type 0} (xs : List (Effect C O)) → Thinned xs xs
Thinned-same [] = none
Thinned-same (x ∷ xs) = keeps (Thinned-same xs)

-- two thinned lists are one
pub Thinned-append : {C O : Type 0} {xs ys us vs : List (Effect C O)} →
    Thinned xs ys → Thinned us vs → Thinned (xs ++ us) (ys ++ vs)
Thinned-append none q = q
Thinned-append (keeps p) q = keeps (Thinned-append p q)
Thinned-append (loses p) q = loses (Thinned-append p q)
