-- DevicesRead.antt: what several reads brought, and what stays as it was written.
use Rattle.std.proofs.Common.{◌≡◌, ℕ, ◌+◌, ◌<◌, ◌≤◌, ◌⊎◌, inl, inr, List, [], ◌++◌, length, take, Option, Some, None, Result, Ok, Err, refl, sym, ap, ◌∙◌, append_assoc, arith, length-append}
use Rattle.std.proofs.lemmas.Bool.{cases_lt}
use Rattle.std.specs.Prelude.{OnOk}
use Rattle.std.specs.Io.KnownBytes.{Appends, Consumes, Keeps}
use Rattle.std.proofs.lemmas.List.{take_all, take-append-le, length-take, length-take-le}

pub consumes_more : (old mid new : Option (List ℕ)) (a b : List ℕ)
    → Consumes old mid a → Consumes mid new b → Consumes old new (a ++ b)
consumes_more None mid new a b first second = tt
consumes_more (Some xs) None new a b first second = elim first [ ]
consumes_more (Some xs) (Some ys) None a b first second = elim second [ ]
consumes_more (Some xs) (Some ys) (Some zs) a b first second =
    first ∙ ap (λ (l : List ℕ). a ++ l) second ∙ sym (append_assoc a b zs)

pub keeps_appended : (old mid new : Option (List ℕ)) (bytes : List ℕ)
    → Appends old mid bytes → Keeps mid new → Appends old new bytes
keeps_appended None mid new bytes written kept = tt
keeps_appended (Some xs) None new bytes written kept = elim written [ ]
keeps_appended (Some xs) (Some ys) None bytes written kept = elim kept [ ]
keeps_appended (Some xs) (Some ys) (Some zs) bytes written kept = kept ∙ written

cases_le : (m n : ℕ) → (m ≤ n) ⊎ (n ≤ m)
cases_le m n = elim (cases_lt m n) as (λ _. (m ≤ n) ⊎ (n ≤ m)) [ inl less ↦ inl (omega (arith, less)) | inr more ↦ inr more ]

kept_twice : (n : ℕ) (xs ys : List ℕ) → take n (take n xs ++ ys) ≡ take n (xs ++ ys)
kept_twice n xs ys = elim (cases_le (length xs) n) as (λ _. take n (take n xs ++ ys) ≡ take n (xs ++ ys)) [
  | inl short ↦ ap (λ (l : List ℕ). take n (l ++ ys)) (take_all n xs short)
  | inr long ↦
      take-append-le n (take n xs) ys (omega (arith, length-take-le n xs long))
      ∙ take_all n (take n xs) (omega (arith, length-take-le n xs long))
      ∙ sym (take-append-le n xs ys long)
]

pub consumes_none : (old : Option (List ℕ)) → Consumes old old []
consumes_none None = tt
consumes_none (Some xs) = refl

pub kept_more : (n : ℕ) (all piece mid new : List ℕ)
    → mid ≡ take n all → new ≡ take n (mid ++ piece) → new ≡ take n (all ++ piece)
kept_more n all piece mid new first second =
    second ∙ ap (λ (l : List ℕ). take n (l ++ piece)) first ∙ kept_twice n all piece

pub counted : (n turn count : ℕ) (mid piece new : List ℕ)
    → new ≡ take n (mid ++ piece) → turn ≤ length mid → turn < n → 0 < count → length piece ≡ count
    → turn + 1 ≤ length new
counted n turn count mid piece new is so_far within some long =
    let size = ap length is ∙ length-take n (mid ++ piece) in
    omega (arith, size, length-append mid piece, so_far, within, some, long)

pub on_ok : {E : Type 0} (r : Result (Unit {0}) E) (P : Type 0) → P → OnOk r P
on_ok (Ok u) P p = p
on_ok (Err e) P p = tt
