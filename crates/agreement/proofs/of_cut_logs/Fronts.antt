-- Fronts.antt: the places of a log that is cut, and of the log that it corresponds to.
use Rattle.std.proofs.Common.{◌≡◌, ℕ, zero, suc, ◌-◌, ◌≤◌, List, [], ◌∷◌, ◌++◌, length, take, drop, refl, ap, ap₂, sym, ◌∙◌, append_assoc, arith}
use Rattle.std.specs.Prelude.{slice_get}
use Rattle.std.proofs.lemmas.Bool.{le-ltb}
use Rattle.std.proofs.lemmas.List.{length-append, length-take-le}
use Rattle.ballot_base.specs.Logs.{Log, command_at, part, places, pushed}
use Rattle.agreement.specs.cut_logs.Whole.{whole_log}

-- lists, and their first `count` places
take_zero : {X : Type 0} (xs : List X) → take 0 xs ≡ []
take_zero [] = refl
take_zero (x ∷ xs) = refl

drop_none : {X : Type 0} (n : ℕ) (xs : List X) → xs ≡ [] → drop n xs ≡ []
drop_none zero xs e = e
drop_none (suc n) [] e = refl
drop_none (suc n) (x ∷ xs) e = cc

part_after : {X : Type 0} (front rest : List X) (from to : ℕ) → length front ≤ from →
    drop from (take to (front ++ rest)) ≡ drop (from - length front) (take (to - length front) rest)
part_after [] rest from to low =
    let a : from ≡ from - 0 = omega arith in let b : to ≡ to - 0 = omega arith in ap₂ (λ i j. drop i (take j rest)) a b
part_after (x ∷ front) rest zero to low = absurd (omega (arith, low))
part_after (x ∷ front) rest (suc from) zero low = none from
  where
    none : (from : ℕ) → [] ≡ drop (suc from - length (x ∷ front)) (take (0 - length (x ∷ front)) rest)
    none from =
        let a : 0 ≡ 0 - length (x ∷ front) = omega arith in
        sym (drop_none (suc from - length (x ∷ front)) (take (0 - length (x ∷ front)) rest) (ap (λ n. take n rest) (sym a) ∙ take_zero rest))
part_after (x ∷ front) rest (suc from) (suc to) low =
    let a : from - length front ≡ suc from - length (x ∷ front) = omega arith in
    let b : to - length front ≡ suc to - length (x ∷ front) = omega arith in
    part_after front rest from to (omega (arith, low)) ∙ ap₂ (λ i j. drop i (take j rest)) a b

get_after : {X : Type 0} (front rest : List X) (place : ℕ) → length front ≤ place →
    slice_get (front ++ rest) place ≡ slice_get rest (place - length front)
get_after [] rest place low = let a : place ≡ place - 0 = omega arith in ap (slice_get rest) a
get_after (x ∷ front) rest zero low = absurd (omega (arith, low))
get_after (x ∷ front) rest (suc place) low =
    let a : place - length front ≡ suc place - length (x ∷ front) = omega arith in
    get_after front rest place (omega (arith, low)) ∙ ap (slice_get rest) a

-- the log that a cut one corresponds to
pub front_long : {C : Type 0} (archive : List C) (log : Log C) → log.base ≤ length archive → length (take log.base archive) ≡ log.base
front_long archive log within = length-take-le log.base archive within

pub whole_long : {C : Type 0} (archive : List C) (log : Log C) → log.base ≤ length archive → length (whole_log archive log) ≡ places log
whole_long archive log within =
    let a = length-append (take log.base archive) log.rest in let b = front_long archive log within in omega (arith, a, b)

pub whole_pushed : {C : Type 0} (archive : List C) (log : Log C) (c : C) → whole_log archive (pushed log c) ≡ whole_log archive log ++ c ∷ []
whole_pushed archive log c = sym (append_assoc (take log.base archive) log.rest (c ∷ []))

pub whole_part : {C : Type 0} (archive : List C) (log : Log C) (from to : ℕ) → log.base ≤ length archive → log.base ≤ from →
    drop from (take to (whole_log archive log)) ≡ part log from to
whole_part archive log from to within low =
    let e = front_long archive log within in
    part_after (take log.base archive) log.rest from to (omega (arith, e, low))
    ∙ ap (λ n. drop (from - n) (take (to - n) log.rest)) e

pub whole_get : {C : Type 0} (archive : List C) (log : Log C) (place : ℕ) → log.base ≤ length archive → log.base ≤ place →
    slice_get (whole_log archive log) place ≡ command_at log place
whole_get {C = C} archive log place within low =
    let e = front_long archive log within in
    get_after (take log.base archive) log.rest place (omega (arith, e, low))
    ∙ ap (λ n. slice_get log.rest (place - n)) e
    ∙ (rw (le-ltb place log.base low) refl)

-- the front of the log that it corresponds to is that of the record
pub whole_front : {C : Type 0} (archive : List C) (log : Log C) → log.base ≤ length archive → take log.base (whole_log archive log) ≡ take log.base archive
whole_front {C = C} archive log within = front_of (take log.base archive) log.rest log.base (front_long archive log within)
  where
    front_of : (xs ys : List C) (n : ℕ) → length xs ≡ n → take n (xs ++ ys) ≡ xs
    front_of [] ys zero e = take_zero ys
    front_of [] ys (suc n) e = cc
    front_of (x ∷ xs) ys zero e = cc
    front_of (x ∷ xs) ys (suc n) e = ap (λ us. x ∷ us) (front_of xs ys n (omega (arith, e)))

-- dropped places are in the record
pub whole_shorter : {C : Type 0} (archive rest : List C) (low high : ℕ) → low ≤ high → high ≤ length archive →
    high ≤ length (take low archive ++ rest) → take high (take low archive ++ rest) ≡ take high archive →
    take high archive ++ drop (high - low) rest ≡ take low archive ++ rest
whole_shorter {C = C} archive rest low high up within long same =
    ap (λ us. us ++ drop (high - low) rest) (sym same)
    ∙ ap (λ us. take high (take low archive ++ rest) ++ us) (sym (after (take low archive) rest high (omega (arith, e, up)) ∙ ap (λ n. drop (high - n) rest) e))
    ∙ whole high (take low archive ++ rest)
  where
    e : length (take low archive) ≡ low
    e = length-take-le low archive (omega (arith, up, within))

    after : (front rest : List C) (n : ℕ) → length front ≤ n → drop n (front ++ rest) ≡ drop (n - length front) rest
    after [] rest n l = let a : n ≡ n - 0 = omega arith in ap (λ i. drop i rest) a
    after (x ∷ front) rest zero l = absurd (omega (arith, l))
    after (x ∷ front) rest (suc n) l =
        let a : n - length front ≡ suc n - length (x ∷ front) = omega arith in after front rest n (omega (arith, l)) ∙ ap (λ i. drop i rest) a

    whole : (n : ℕ) (xs : List C) → take n xs ++ drop n xs ≡ xs
    whole zero [] = refl
    whole zero (x ∷ xs) = refl
    whole (suc n) [] = refl
    whole (suc n) (x ∷ xs) = ap (λ us. x ∷ us) (whole n xs)
