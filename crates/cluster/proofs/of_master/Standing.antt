-- Standing.antt: what may stand in a file after a write.
use Rattle.std.proofs.Common.{◌≡◌, ◌⊎◌, inl, inr, ℕ, List, [], ◌∷◌, ◌++◌, subst, sym}
use Rattle.lists.specs.Lists.{In}
use Rattle.lists.specs.Lists.In.{here, there}
use Rattle.lists.proofs.Members.{in_append}
use Rattle.cluster.specs.desk.Keeping.{AreAmong}

one_or_old : (state bytes : List ℕ) (old : List (List ℕ)) → In bytes old ⊎ In bytes (state ∷ []) → In bytes (state ∷ old)
one_or_old state bytes old (inl i) = there i
one_or_old state bytes old (inr here) = here
one_or_old state bytes old (inr (there i)) = absurd (nothing i)
  where
    nothing : {b : List ℕ} → In b [] → ⊥
    nothing i = elim i [ ]

pub added_stands : (state : List ℕ) (new old : List (List ℕ)) → new ≡ old ++ state ∷ [] → AreAmong new (state ∷ old)
added_stands state new old is = λ bytes i.
    one_or_old state bytes old (in_append old (state ∷ []) (subst (In bytes) is i))

pub same_stands : (state : List ℕ) (new old : List (List ℕ)) → new ≡ old → AreAmong new (state ∷ old)
same_stands state new old is = λ bytes i. there (subst (In bytes) is i)

pub one_more_stands : (bytes state : List ℕ) (new old : List (List ℕ)) → state ≡ bytes → AreAmong new (state ∷ old)
    → AreAmong new (bytes ∷ old)
one_more_stands bytes state new old is among = rw (sym is) among
