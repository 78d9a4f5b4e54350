-- Archived.antt: the record of places after those that a replica applied were added to it.
use Rattle.std.proofs.Common.{◌≡◌, ℕ, zero, suc, ◌+◌, ◌-◌, ◌≤◌, List, [], ◌∷◌, ◌++◌, length, take, drop, Result, OnOk, refl, ap, ap₂, sym, ◌∙◌, subst, arith}
use Rattle.std.proofs.lemmas.List.{append-nil, drop-take}
use Rattle.lists.specs.Lists.{IsPrefixOf}
use Rattle.lists.proofs.Prefixes.{take_prefix}
use Rattle.ballot_base.specs.Logs.{part}
use Rattle.ballot_base.specs.Replica.{ReplicaState}
use Rattle.agreement.specs.cut_logs.Whole.{whole_log}
use Rattle.agreement.specs.cut_logs.World.{recorded}
use Rattle.agreement.proofs.of_cut_logs.Fronts.{whole_part}

-- the places that are added
pub recorded_part : {S C : Type 0} (archive : List C) (r : ReplicaState S C) → r.log.base ≤ length archive →
    recorded archive r ≡ archive ++ part r.log (length archive) r.committed
recorded_part archive r within = ap (λ us. archive ++ us) (whole_part archive r.log (length archive) r.committed within within)

nothing_left : {X : Type 0} (n m : ℕ) (xs : List X) → m ≤ n → drop n (take m xs) ≡ []
nothing_left zero zero [] low = refl
nothing_left zero zero (x ∷ xs) low = refl
nothing_left zero (suc m) xs low = absurd (omega (arith, low))
nothing_left (suc n) zero [] low = refl
nothing_left (suc n) zero (x ∷ xs) low = refl
nothing_left (suc n) (suc m) [] low = refl
nothing_left (suc n) (suc m) (x ∷ xs) low = nothing_left n m xs (omega (arith, low))

-- none, if the record has them
pub added_none : {X : Type 0} (archive rest : List X) (base committed from to : ℕ) → from ≡ length archive - base → to ≡ committed - base → to ≤ from →
    archive ≡ archive ++ drop (length archive - base) (take (committed - base) rest)
added_none archive rest base committed from to at up low =
    sym (ap (λ us. archive ++ us) (nothing_left (length archive - base) (committed - base) rest (omega (arith, at, up, low))) ∙ append-nil archive)

-- .. and otherwise those that are read of the rest
pub added_some : {T E X : Type 0} (r : Result T E) (archive more rest : List X) (base committed held to : ℕ) → held ≡ length archive → to ≡ committed - base →
    held - base ≤ to → OnOk r (more ≡ archive ++ take (to - (held - base)) (drop (held - base) rest)) →
    OnOk r (more ≡ archive ++ drop (length archive - base) (take (committed - base) rest))
added_some {X = X} r archive more rest base committed held to at up low added =
    let a : held - base ≡ length archive - base = ap (λ n. n - base) at in
    let b : held - base + (to - (held - base)) ≡ committed - base = omega (arith, up, low) in
    subst (λ (us : List X). OnOk r (more ≡ archive ++ us))
    (sym (drop-take (held - base) (to - (held - base)) rest) ∙ ap₂ (λ i j. drop i (take j rest)) a b) added

-- so the record is the one after a cut
pub recorded_by : {S C : Type 0} (archive more rest : List C) (base committed : ℕ) (r : ReplicaState S C) → r.log.base ≤ length archive →
    base ≡ r.log.base → committed ≡ r.committed → rest ≡ r.log.rest →
    more ≡ archive ++ drop (length archive - base) (take (committed - base) rest) → more ≡ recorded archive r
recorded_by {C = C} archive more rest base committed r within b c same is =
    is ∙ ap (λ (us : List C). archive ++ drop (length archive - base) (take (committed - base) us)) same
    ∙ ap₂ (λ i j. archive ++ drop (length archive - i) (take (j - i) r.log.rest)) b c ∙ sym (recorded_part archive r within)

-- what was added is undone
pub taken_back : {X : Type 0} (archive more : List X) (before : ℕ) → IsPrefixOf archive more → before ≡ length archive → take before more ≡ archive
taken_back {X = X} archive more before p at =
    ap (λ n. take n more) at ∙ take_prefix (length archive) p (omega arith) ∙ all_of archive
  where
    all_of : (us : List X) → take (length us) us ≡ us
    all_of [] = refl
    all_of (u ∷ us) = ap (λ vs. u ∷ vs) (all_of us)

pub recorded_begins : {S C : Type 0} (archive more : List C) (r : ReplicaState S C) → more ≡ recorded archive r → IsPrefixOf archive more
recorded_begins archive more r is = record { rest = drop (length archive) (take r.committed (whole_log archive r.log)); is = is }

pub begins_by : {X : Type 0} (archive more added : List X) → more ≡ archive ++ added → IsPrefixOf archive more
begins_by archive more added is = record { rest = added; is = is }
