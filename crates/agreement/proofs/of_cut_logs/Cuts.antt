-- Cuts.antt: a cut changes nothing on whole logs, and the record continues as a prefix of the
-- agreed list.
use Rattle.std.proofs.Common.{◌≡◌, ℕ, zero, suc, ◌≤◌, ◌⊎◌, inl, inr, List, [], ◌∷◌, ◌++◌, length, map, take, drop, Some, refl, ap, ap₂, sym, ◌∙◌, subst, arith}
use Rattle.std.specs.Prelude.{slice_get}
use Rattle.std.proofs.lemmas.Bool.{cases_lt}
use Rattle.std.proofs.lemmas.List.{append-nil, length-take-le, take-append-drop}
use Rattle.lists.specs.Lists.{In, IsPrefixOf}
use Rattle.lists.specs.Lists.In.{here, there}
use Rattle.lists.proofs.Prefixes.{prefix_take, take_prefix}
use Rattle.agreement.specs.cut_logs.Whole.{whole_log, whole_body}
use Rattle.ballot_base.specs.declared.message.Body.{Body}
use Rattle.ballot_base.specs.declared.message.Body.TheVariants.{NewBallot, Join, State, Install, Installed, Activate, Activated, Superseded, Append, Held, Commit}
use Rattle.ballot_base.specs.Replica.{ReplicaState}
use Rattle.agreement.specs.cut_logs.World.{recorded}

-- lists that are mapped alike
pub map_alike : {X Y : Type 0} (g h : X → Y) (xs : List X) → ((x : X) → In x xs → g x ≡ h x) → map g xs ≡ map h xs
map_alike g h [] e = refl
map_alike g h (x ∷ xs) e = ap₂ (λ y ys. y ∷ ys) (e x here) (map_alike g h xs (λ y i. e y (there i)))

pub map_alike_at : {X Y : Type 0} (g h : X → Y) (xs : List X) → ((n : ℕ) (x : X) → slice_get xs n ≡ Some x → g x ≡ h x) → map g xs ≡ map h xs
map_alike_at g h [] e = refl
map_alike_at g h (x ∷ xs) e = ap₂ (λ y ys. y ∷ ys) (e zero x refl) (map_alike_at g h xs (λ n y i. e (suc n) y i))

-- the base of a log in a message lies within the record
abbrev pub IsWithin : {C : Type 0} → ℕ → Body C → Type 0
IsWithin long (State b log) = log.base ≤ long
IsWithin long (Install b log) = log.base ≤ long
IsWithin long _ = Unit {0}

pub body_stays : {C : Type 0} (archive more : List C) (body : Body C) → IsPrefixOf archive more → IsWithin (length archive) body →
    whole_body more body ≡ whole_body archive body
body_stays archive more (NewBallot b members a old) p within = refl
body_stays archive more (Join b a) p within = refl
body_stays {C = C} archive more (State b log) p within = ap (λ (us : List C). whole_body archive (State b (record { base = 0; snapshot = []; rest = us ++ log.rest }))) (take_prefix log.base p within)
body_stays {C = C} archive more (Install b log) p within = ap (λ (us : List C). whole_body archive (Install b (record { base = 0; snapshot = []; rest = us ++ log.rest }))) (take_prefix log.base p within)
body_stays archive more (Installed b held) p within = refl
body_stays archive more (Activate b) p within = refl
body_stays archive more (Activated b) p within = refl
body_stays archive more (Superseded b) p within = refl
body_stays archive more (Append b place c) p within = refl
body_stays archive more (Held b held) p within = refl
body_stays archive more (Commit b held) p within = refl

-- the record after a cut
pub recorded_longer : {S C : Type 0} (archive : List C) (r : ReplicaState S C) → IsPrefixOf archive (recorded archive r)
recorded_longer archive r = record { rest = drop (length archive) (take r.committed (whole_log archive r.log)); is = refl }

longer_of : {C : Type 0} (xs ys : List C) → IsPrefixOf xs ys → xs ++ drop (length xs) ys ≡ ys
longer_of {C = C} xs ys p =
    ap (λ us. us ++ drop (length xs) ys) (sym (take_prefix (length xs) p (omega arith) ∙ all_of xs)) ∙ take-append-drop (length xs) ys
  where
    all_of : (us : List C) → take (length us) us ≡ us
    all_of [] = refl
    all_of (u ∷ us) = ap (λ vs. u ∷ vs) (all_of us)

shorter_of : {C : Type 0} (xs ys : List C) → length ys ≤ length xs → xs ++ drop (length xs) ys ≡ xs
shorter_of {C = C} xs ys short = ap (λ us. xs ++ us) (nothing_left (length xs) ys short) ∙ append-nil xs
  where
    nothing_left : (n : ℕ) (us : List C) → length us ≤ n → drop n us ≡ []
    nothing_left zero [] l = refl
    nothing_left zero (u ∷ us) l = absurd (omega (arith, l))
    nothing_left (suc n) [] l = refl
    nothing_left (suc n) (u ∷ us) l = nothing_left n us (omega (arith, l))

-- both begin one list, so the record has the places below what is committed, and begins that list
pub record Recorded {S C : Type 0} (archive : List C) (r : ReplicaState S C) (xs : List C) : Type 0 where
  pub has : take r.committed (whole_log archive r.log) ≡ take r.committed (recorded archive r)
  pub long : r.committed ≤ length (recorded archive r)
  pub begins : IsPrefixOf (recorded archive r) xs

pub is_recorded : {S C : Type 0} (archive : List C) (r : ReplicaState S C) (xs : List C) → r.committed ≤ length (whole_log archive r.log) →
    IsPrefixOf archive xs → IsPrefixOf (take r.committed (whole_log archive r.log)) xs → Recorded archive r xs
is_recorded {S = S} {C = C} archive r xs within p q = by_order (cases_lt (length archive) r.committed)
  where
    front : List C
    front = take r.committed (whole_log archive r.log)

    long : length front ≡ r.committed
    long = length-take-le r.committed (whole_log archive r.log) within

    take_all : (us : List C) (n : ℕ) → length us ≡ n → take n us ≡ us
    take_all [] zero e = refl
    take_all [] (suc n) e = refl
    take_all (u ∷ us) zero e = cc
    take_all (u ∷ us) (suc n) e = ap (λ vs. u ∷ vs) (take_all us n (omega (arith, e)))

    by_order : (suc (length archive) ≤ r.committed) ⊎ (r.committed ≤ length archive) → Recorded archive r xs
    by_order (inl over) =
        let begins : IsPrefixOf archive front =
        subst (λ (us : List C). IsPrefixOf us front)
        (sym (take_prefix (length archive) q (omega (arith, long, over))) ∙ take_prefix (length archive) p (omega arith) ∙ take_all archive (length archive) refl)
        (prefix_take (length archive) front) in
        let same = longer_of archive front begins in
        record {
          has = sym (take_all front r.committed long) ∙ ap (take r.committed) (sym same);
          long = (let a = ap length same in omega (arith, a, long));
          begins = subst (λ (us : List C). IsPrefixOf us xs) (sym same) q;
        }
    by_order (inr under) =
        let same = shorter_of archive front (omega (arith, long, under)) in
        record {
          has = sym (take_all front r.committed long) ∙ sym (take_prefix r.committed q (omega (arith, long))) ∙ take_prefix r.committed p under ∙ ap (take r.committed) (sym same);
          long = (let a = ap length same in omega (arith, a, under));
          begins = subst (λ (us : List C). IsPrefixOf us xs) (sym same) p;
        }
