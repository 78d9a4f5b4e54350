-- AppliesInOrder.antt: places that are applied one after another give the replay and its outputs.
use Rattle.std.proofs.Common.{◌≡◌, ℕ, zero, suc, ◌+◌, ◌-◌, ◌<◌, ◌≤◌, List, [], ◌∷◌, ◌++◌, length, get_or, map, take, drop, refl, ap, sym, ◌∙◌, append_assoc, arith}
use Rattle.std.proofs.lemmas.List.{take_more, take-take, take-append-drop, drop-append-le, length-take-le, length-drop, append-nil}
use Rattle.machine.specs.Machine.{Rules, replay, replay_from}
use Rattle.ballot_base.specs.declared.message.Effect.{Effect}
use Rattle.ballot_base.specs.declared.message.Effect.TheVariants.{Out}
use Rattle.ballot_base.specs.Application.{outputs_from}
use Rattle.ballot_base.specs.Logs.{Log, part, places}

-- commands after others are done in the state that those leave
pub replay_from-append : {S C O : Type 0} (rules : Rules S C O) (s : S) (xs ys : List C) →
    replay_from rules s (xs ++ ys) ≡ replay_from rules (replay_from rules s xs) ys
replay_from-append rules s [] ys = refl
replay_from-append rules s (x ∷ xs) ys = replay_from-append rules (rules.after s x) xs ys

-- commands after others give what they give in the state that those leave
pub outputs_from-append : {S C O : Type 0} (rules : Rules S C O) (s : S) (place : ℕ) (xs ys : List C) →
    outputs_from rules s place (xs ++ ys)
    ≡ outputs_from rules s place xs
    ++ outputs_from rules (replay_from rules s xs) (place + length xs) ys
outputs_from-append rules s place [] ys =
    ap (λ n. outputs_from rules s n ys) (omega arith)
outputs_from-append rules s place (x ∷ xs) ys =
    let rest = outputs_from-append rules (rules.after s x) (place + 1) xs ys in
    let e : (place + 1) + length xs ≡ place + length (x ∷ xs) = omega arith in
    ap (λ (zs : List (Effect _ _)). map (Out place) (rules.gives s x) ++ zs) rest
    ∙ sym (append_assoc (map (Out place) (rules.gives s x)) _ _)
    ∙ ap (λ n. (map (Out place) (rules.gives s x) ++ outputs_from rules (rules.after s x) (place + 1) xs)
    ++ outputs_from rules (replay_from rules (rules.after s x) xs) n ys) e

-- the commands from one length up to another, with one more
rest_more : {C : Type 0} (rest : List C) (from place : ℕ) (d : C) → from ≤ place → place < length rest →
    drop from (take (place + 1) rest) ≡ drop from (take place rest) ++ get_or rest place d ∷ []
rest_more rest from place d rising below =
    let within : length (take place rest) ≡ place = length-take-le place rest (omega arith) in
    ap (drop from) (take_more rest place d below)
    ∙ drop-append-le from (take place rest) (get_or rest place d ∷ []) (omega arith)

-- .. of a log that keeps them
part_more : {C : Type 0} (log : Log C) (from place : ℕ) (d : C) → log.base ≤ from → from ≤ place → place < places log →
    part log from (place + 1) ≡ part log from place ++ get_or log.rest (place - log.base) d ∷ []
part_more log from place d kept rising below =
    let e : (place + 1) - log.base ≡ (place - log.base) + 1 = omega (arith, kept, rising) in
    ap (λ n. drop (from - log.base) (take n log.rest)) e
    ∙ rest_more log.rest (from - log.base) (place - log.base) d (omega (arith, kept, rising)) (omega (arith, kept, rising, below))

-- no place lies between a length and itself
pub part_none : {C : Type 0} (log : List C) (from : ℕ) → drop from (take from log) ≡ []
part_none log zero = refl
part_none [] (suc n) = refl
part_none (x ∷ log) (suc n) = part_none log n

-- a machine that does one place more
pub replay_part-more : {S C O : Type 0} (rules : Rules S C O) (s : S) (log : Log C) (from place : ℕ) (d : C) →
    log.base ≤ from → from ≤ place → place < places log →
    replay_from rules s (part log from (place + 1))
    ≡ rules.after (replay_from rules s (part log from place)) (get_or log.rest (place - log.base) d)
replay_part-more rules s log from place d kept rising below =
    ap (replay_from rules s) (part_more log from place d kept rising below)
    ∙ replay_from-append rules s (part log from place) (get_or log.rest (place - log.base) d ∷ [])

-- and what it gives there
pub outputs_part-more : {S C O : Type 0} (rules : Rules S C O) (s : S) (log : Log C) (from place : ℕ) (d : C) →
    log.base ≤ from → from ≤ place → place < places log →
    outputs_from rules s from (part log from (place + 1))
    ≡ outputs_from rules s from (part log from place)
    ++ map (Out place) (rules.gives (replay_from rules s (part log from place)) (get_or log.rest (place - log.base) d))
outputs_part-more {C = C} rules s log from place d kept rising below =
    let within : length (take (place - log.base) log.rest) ≡ place - log.base =
    length-take-le (place - log.base) log.rest (omega (arith, kept, rising, below)) in
    let at : from + length (part log from place) ≡ place =
    omega (arith, kept, rising, within, length-drop (from - log.base) (take (place - log.base) log.rest)) in
    ap (outputs_from rules s from) (part_more log from place d kept rising below)
    ∙ outputs_from-append rules s from (part log from place) _
    ∙ ap (λ (zs : List (Effect C _)). outputs_from rules s from (part log from place) ++ zs)
    (one_output rules _ _ (get_or log.rest (place - log.base) d) ∙ rw at refl)
  where
    one_output : {S C O : Type 0} (rules : Rules S C O) (s : S) (place : ℕ) (c : C) →
        outputs_from rules s place (c ∷ []) ≡ map (Out place) (rules.gives s c)
    one_output rules s place c = append-nil (map (Out place) (rules.gives s c))

-- a machine that is the replay of a front continues to the replay of a longer one
pub replay_goes_on : {S C O : Type 0} (rules : Rules S C O) (s : S) (log : List C) (from to : ℕ) → from ≤ to →
    s ≡ replay rules (take from log) → replay_from rules s (drop from (take to log)) ≡ replay rules (take to log)
replay_goes_on rules s log from to rising before =
    ap (λ t. replay_from rules t (drop from (take to log))) before
    ∙ sym (replay_from-append rules rules.opening (take from log) (drop from (take to log)))
    ∙ ap (replay rules) (front_and_part log from to rising)
  where
    front_and_part : {C : Type 0} (log : List C) (from to : ℕ) → from ≤ to →
        take from log ++ drop from (take to log) ≡ take to log
    front_and_part log from to rising =
        ap (λ xs. xs ++ drop from (take to log)) (sym (take-take from to log rising))
        ∙ take-append-drop from (take to log)
