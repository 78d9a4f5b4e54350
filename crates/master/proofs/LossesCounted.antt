-- LossesCounted.antt: what the replicas of a group counted, the group counted.
use Rattle.std.proofs.Common.{◌≡◌, ℕ, zero, suc, ◌+◌, ◌-◌, ◌^◌, ◌<◌, ◌≤◌, ◌⊎◌, inl, inr, Bool, true, false, cond, min, List, [], ◌∷◌, ◌++◌, length, set, get_or, refl, ap, sym, ◌∙◌, subst, arith}
use Rattle.std.specs.Prelude.{◌&&◌}
use Rattle.std.proofs.lemmas.Bool.{cases_lt}
use Rattle.machine.specs.Machine.{Rules}
use Rattle.lists.proofs.OfEach.{each_append, each_then}
use Rattle.ballot_base.specs.Compaction.{can_cut}
use Rattle.ballot_base.specs.declared.message.Effect.{Effect}
use Rattle.ballot_base.specs.Losses.{one_more}
use Rattle.ballot_base.specs.Protocol.{Input}
use Rattle.ballot_base.specs.Replica.{CountedReplica, ReplicaState}
use Rattle.master.specs.Inside.{CountsAtMost}
use Rattle.master.specs.Inside.Losses.{InputStepOrLost}

-- a count that no loss raised
pub quiet_count : (whole kept : Bool) (losses counted old : ℕ) → counted ≡ cond (whole && kept) losses (one_more losses) → kept ≡ true → old ≤ losses →
    losses ≤ 2 ^ 64 - 1 → (old < 2 ^ 64 - 1 → whole ≡ true) → counted ≡ losses
quiet_count true true losses counted old e all low high told = e
quiet_count true false losses counted old e all low high told = cc
quiet_count false kept losses counted old e all low high told = by_count (cases_lt old (2 ^ 64 - 1))
  where
    by_count : (old < 2 ^ 64 - 1) ⊎ (2 ^ 64 - 1 ≤ old) → counted ≡ losses
    by_count (inl below) = let f = told below in cc
    by_count (inr past) = e ∙ (let z : min (losses + 1) (2 ^ 64 - 1) ≡ losses = omega (arith, past, low, high) in z)

-- what a replica counted, the group counted
pub count_covers : {S C O : Type 0} {rules : Rules S C O} {old : CountedReplica S C} {input : Input C} {new : CountedReplica S C}
    {before after : List (Effect C O)} (whole kept : Bool) (losses counted : ℕ) → InputStepOrLost rules old input new before after whole →
    counted ≡ cond (whole && kept) losses (one_more losses) → old.losses ≤ losses → losses ≤ 2 ^ 64 - 1 → (new.losses ≤ counted) × (losses ≤ counted)
count_covers {old = old} {new = new} true true losses counted t e low high =
    let same = (t.exact refl).2 in (omega (arith, same, e, low), omega (arith, e))
count_covers {old = old} {new = new} true false losses counted t e low high =
    let f : counted ≡ min (losses + 1) (2 ^ 64 - 1) = e in
    let same = (t.exact refl).2 in (omega (arith, same, f, low, high), omega (arith, f, high))
count_covers {old = old} {new = new} false kept losses counted t e low high =
    let f : counted ≡ min (losses + 1) (2 ^ 64 - 1) = e in (by_count f t.counted, omega (arith, f, high))
  where
    by_count : counted ≡ min (losses + 1) (2 ^ 64 - 1) → (new.losses ≡ old.losses) ⊎ (new.losses ≡ one_more old.losses) → new.losses ≤ counted
    by_count f (inl same) = omega (arith, same, f, low, high)
    by_count f (inr more) = let g : new.losses ≡ min (old.losses + 1) (2 ^ 64 - 1) = more in omega (arith, f, g, low, high)

-- a replica of the group
pub counts_at : {S C : Type 0} (losses : ℕ) (nodes : List (CountedReplica S C)) (n : ℕ) (old : CountedReplica S C) → CountsAtMost losses nodes →
    n < length nodes → old ≡ get_or nodes n old → old.losses ≤ losses
counts_at losses [] n old all below read = absurd (omega (arith, below))
counts_at losses (r ∷ nodes) zero old all below read = let e = ap (λ (z : CountedReplica _ _). z.losses) read in let low = all.0 in omega (arith, e, low)
counts_at losses (r ∷ nodes) (suc n) old all below read = counts_at losses nodes n old all.1 (omega (arith, below)) read

-- one that changed, and a group that counted more
pub counts_set : {S C : Type 0} (losses : ℕ) (nodes : List (CountedReplica S C)) (n : ℕ) (new : CountedReplica S C) → CountsAtMost losses nodes →
    new.losses ≤ losses → CountsAtMost losses (set nodes n new)
counts_set losses [] n new all low = tt
counts_set losses (r ∷ nodes) zero new all low = (low, all.1)
counts_set losses (r ∷ nodes) (suc n) new all low = (all.0, counts_set losses nodes n new all.1 low)

pub counts_more : {S C : Type 0} (losses more : ℕ) (nodes : List (CountedReplica S C)) → losses ≤ more → CountsAtMost losses nodes → CountsAtMost more nodes
counts_more {S = S} {C = C} losses more nodes up all =
    each_then (λ (r : CountedReplica S C). r.losses ≤ losses) (λ (r : CountedReplica S C). r.losses ≤ more) nodes (λ r low. omega (arith, low, up)) all

-- a replica that opens has counted none
pub counts_opened : {S C : Type 0} (nodes more : List (CountedReplica S C)) (new : CountedReplica S C) → CountsAtMost 0 nodes → new.losses ≡ 0 →
    more ≡ nodes ++ new ∷ [] → CountsAtMost 0 more
counts_opened {S = S} {C = C} nodes more new all none is =
    subst (λ (us : List (CountedReplica S C)). CountsAtMost 0 us) (sym is)
    (each_append (λ (r : CountedReplica S C). r.losses ≤ 0) nodes (new ∷ []) all (omega (arith, none), tt))

-- a loss of the group
pub counts_lost : {S C : Type 0} (losses counted : ℕ) (nodes : List (CountedReplica S C)) → losses ≤ 2 ^ 64 - 1 → counted ≡ one_more losses →
    CountsAtMost losses nodes → CountsAtMost counted nodes
counts_lost losses counted nodes high e all =
    let f : counted ≡ min (losses + 1) (2 ^ 64 - 1) = e in counts_more losses counted nodes (omega (arith, f, high)) all

-- one that may be, if the master said something
pub counts_told : {S C : Type 0} (first second : Bool) (losses counted : ℕ) (nodes : List (CountedReplica S C)) → losses ≤ 2 ^ 64 - 1 →
    counted ≡ cond (first && second) losses (one_more losses) → CountsAtMost losses nodes → CountsAtMost counted nodes
counts_told {S = S} {C = C} true true losses counted nodes high e all = subst (λ k. CountsAtMost {S = S} {C = C} k nodes) (sym e) all
counts_told true false losses counted nodes high e all = counts_lost losses counted nodes high e all
counts_told false second losses counted nodes high e all = counts_lost losses counted nodes high e all

-- a cut for which memory ran out, which the replica counted and the group
pub counts_cut : {S C : Type 0} (losses counted : ℕ) (nodes : List (CountedReplica S C)) (n : ℕ) (old new : CountedReplica S C) (r : ReplicaState S C) →
    n < length nodes → old ≡ get_or nodes n old → old.state ≡ r → can_cut r ≡ true →
    (can_cut old.state ≡ true → new.losses ≡ one_more old.losses) → losses ≤ 2 ^ 64 - 1 → counted ≡ one_more losses →
    CountsAtMost losses nodes → CountsAtMost counted (set nodes n new)
counts_cut losses counted nodes n old new r below read same can tells high e all =
    counts_set counted nodes n new (counts_lost losses counted nodes high e all) (omega (arith, low, f, g, high))
  where
    low : old.losses ≤ losses
    low = counts_at losses nodes n old all below read

    f : counted ≡ min (losses + 1) (2 ^ 64 - 1)
    f = e

    g : new.losses ≡ min (old.losses + 1) (2 ^ 64 - 1)
    g = tells (ap can_cut same ∙ can)
