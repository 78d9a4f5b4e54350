-- PlacesApplied.antt: one place more is applied, and its outputs are given.
use Rattle.std.proofs.Common.{◌≡◌, ℕ, ◌+◌, ◌-◌, ◌<◌, ◌≤◌, List, [], ◌++◌, get_or, map, Result, Ok, Err, OnErr, ap, ap₂, sym, ◌∙◌, append_assoc}
use Rattle.machine.specs.Machine.{Rules, replay_from}
use Rattle.ballot_base.specs.declared.message.Effect.{Effect}
use Rattle.ballot_base.specs.declared.message.Effect.TheVariants.{Out}
use Rattle.ballot_base.specs.Logs.{Log, part, places}
use Rattle.ballot_base.specs.Application.{outputs_from}
use Rattle.ballot_base.proofs.AppliesInOrder.{replay_part-more, outputs_part-more}

-- what holds anyway holds on an error
pub on_err_any : {T E : Type 0} {P : Type 0} (r : Result T E) → P → OnErr r P
on_err_any (Ok x) p = tt
on_err_any (Err e) p = p

-- a command that was read at its place of the rest
read_kept : {C : Type 0} (log : Log C) (place base : ℕ) (rest : List C) (x : C) → base ≡ log.base → rest ≡ log.rest →
    x ≡ get_or rest (place - base) x → x ≡ get_or log.rest (place - log.base) x
read_kept log place base rest x b r read = read ∙ ap₂ (λ us k. get_or us (place - k) x) r b

-- the machine has done one place more
pub place_applied : {S C O : Type 0} (rules : Rules S C O) (s0 : S) (log : Log C) (from place base : ℕ) (rest : List C) (x : C) (s s' : S) →
    log.base ≤ from → from ≤ place → place < places log → base ≡ log.base → rest ≡ log.rest → x ≡ get_or rest (place - base) x →
    s ≡ replay_from rules s0 (part log from place) →
    s' ≡ rules.after s x → s' ≡ replay_from rules s0 (part log from (place + 1))
place_applied rules s0 log from place base rest x s s' kept rising below b r read before done =
    done ∙ ap (λ t. rules.after t x) before
    ∙ ap (rules.after (replay_from rules s0 (part log from place))) (read_kept log place base rest x b r read)
    ∙ sym (replay_part-more rules s0 log from place x kept rising below)

-- its outputs come after those of the places before
pub place_given : {S C O : Type 0} (rules : Rules S C O) (s0 : S) (log : Log C) (from place base : ℕ) (rest : List C) (x : C) (s : S)
    (given none : List O) (start mid new : List (Effect C O)) →
    log.base ≤ from → from ≤ place → place < places log → base ≡ log.base → rest ≡ log.rest → x ≡ get_or rest (place - base) x →
    s ≡ replay_from rules s0 (part log from place) →
    none ≡ [] → given ≡ none ++ rules.gives s x →
    mid ≡ start ++ outputs_from rules s0 from (part log from place) → new ≡ mid ++ map (Out place) given →
    new ≡ start ++ outputs_from rules s0 from (part log from (place + 1))
place_given {C = C} rules s0 log from place base rest x s given none start mid new kept rising below b r read before empty gave said put =
    let earlier = part log from place in
    let output : given ≡ rules.gives (replay_from rules s0 earlier) (get_or log.rest (place - log.base) x) =
    gave ∙ ap (λ xs. xs ++ rules.gives s x) empty
    ∙ ap (λ t. rules.gives t x) before
    ∙ ap (rules.gives (replay_from rules s0 earlier)) (read_kept log place base rest x b r read) in
    put ∙ ap (λ xs. xs ++ map (Out place) given) said
    ∙ ap (λ ys. (start ++ outputs_from rules s0 from earlier) ++ map (Out place) ys) output
    ∙ append_assoc start (outputs_from rules s0 from earlier) _
    ∙ ap (λ (zs : List (Effect C _)). start ++ zs) (sym (outputs_part-more rules s0 log from place x kept rising below))
