-- KeptCommands.antt: which command of a log is kept.
use Rattle.std.proofs.Common.{◌≡◌, ℕ, ◌-◌, ◌<◌, ◌≤◌, List, length, get_or, None, Some, refl, ap₂, sym, ◌∙◌}
use Rattle.std.specs.Prelude.{slice_get}
use Rattle.std.proofs.lemmas.Bool.{lt-ltb, le-ltb}
use Rattle.std.proofs.lemmas.Option.{slice_get_read, slice_get_past}
use Rattle.ballot_base.specs.Logs.{Log, command_at}

-- none below the base
pub command_at-below : {C : Type 0} (log : Log C) (place : ℕ) → place < log.base → command_at log place ≡ None
command_at-below log place low = rw (lt-ltb place log.base low) refl

-- and each from there on
command_at-kept : {C : Type 0} (log : Log C) (place base : ℕ) (rest : List C) → base ≡ log.base → rest ≡ log.rest → base ≤ place →
    command_at log place ≡ slice_get rest (place - base)
command_at-kept {C = C} log place base rest b r kept =
    rw (le-ltb place log.base (rw (← b) kept)) (ap₂ (λ (us : List C) k. slice_get us (place - k)) (sym r) (sym b))

-- by what was found in the rest
pub command_at-found : {C : Type 0} (log : Log C) (place base : ℕ) (rest : List C) (x : C) → base ≡ log.base → rest ≡ log.rest → base ≤ place →
    place - base < length rest → x ≡ get_or rest (place - base) x → command_at log place ≡ Some x
command_at-found log place base rest x b r kept below is =
    command_at-kept log place base rest b r kept ∙ slice_get_read rest (length rest) (place - base) x refl below is

pub command_at-past : {C : Type 0} (log : Log C) (place base : ℕ) (rest : List C) → base ≡ log.base → rest ≡ log.rest → base ≤ place →
    length rest ≤ place - base → command_at log place ≡ None
command_at-past log place base rest b r kept past =
    command_at-kept log place base rest b r kept ∙ slice_get_past rest (place - base) past
