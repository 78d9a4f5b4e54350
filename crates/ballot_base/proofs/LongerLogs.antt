-- LongerLogs.antt: a log with a command at its end.
use Rattle.std.proofs.Common.{◌≡◌, ℕ, ◌+◌, ◌-◌, ◌≤◌, List, [], ◌∷◌, ◌++◌, length, get_or, drop, refl, ap, arith}
use Rattle.std.proofs.lemmas.List.{length-append, take_at, take-append-le}
use Rattle.ballot_base.specs.Logs.{Log, part, places, popped, pushed}

-- it has one place more
pub places_pushed : {C : Type 0} (log : Log C) (c : C) → places (pushed log c) ≡ places log + 1
places_pushed log c = let n = length-append log.rest (c ∷ []) in omega (arith, n)

-- and it is as before once the command is dropped
pub popped_pushed : {C : Type 0} (log : Log C) (c : C) → popped (pushed log c) ≡ log
popped_pushed {C = C} log c =
    let n = length-append log.rest (c ∷ []) in
    ap (λ (us : List C). let x : Log C = record log { rest = us } in x)
    (take_at log.rest (c ∷ []) (length (log.rest ++ c ∷ []) - 1) (omega (arith, n)))

-- the commands before it stay
pub part_pushed : {C : Type 0} (log : Log C) (c : C) (from to : ℕ) → to ≤ places log → part (pushed log c) from to ≡ part log from to
part_pushed log c from to within =
    ap (drop (from - log.base)) (take-append-le (to - log.base) log.rest (c ∷ []) (omega (arith, within)))

-- it is the last
pub last_pushed : {C : Type 0} (rest : List C) (last d : C) → get_or (rest ++ last ∷ []) (length rest) d ≡ last
last_pushed [] last d = refl
last_pushed (x ∷ rest) last d = last_pushed rest last d
