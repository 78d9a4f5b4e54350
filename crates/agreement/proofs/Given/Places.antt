-- Places.antt: the outputs of places of a list: of none, of two parts that are joined, and in a list that begins so.
use Rattle.std.proofs.Common.{◌≡◌, ℕ, ◌+◌, ◌≤◌, List, [], ◌++◌, length, take, drop, refl, ap, sym, ◌∙◌, arith}
use Rattle.std.proofs.lemmas.List.{length-drop, length-take-le, take-take}
use Rattle.machine.specs.Machine.{Rules, replay, replay_from}
use Rattle.lists.specs.Lists.{IsPrefixOf}
use Rattle.lists.proofs.Prefixes.{take_prefix}
use Rattle.agreement.specs.whole_logs.Application.{outputs_from, outputs_between}
use Rattle.agreement.proofs.of_whole_logs.AppliesInOrder.{outputs_from-append}
use Rattle.ballot_base.proofs.AppliesInOrder.{part_none, replay_goes_on}
use Rattle.agreement.specs.World.{outputs}
use Rattle.agreement.proofs.Effects.{outputs-append}
use Rattle.agreement.proofs.Frame.Giving.{same_outputs}
use Rattle.agreement.proofs.Machines.Applies.{parts_join}

-- no places
pub none_between : {S C O : Type 0} (rules : Rules S C O) (xs : List C) (place : ℕ) → outputs (outputs_between rules xs place place) ≡ []
none_between {S = S} {C = C} {O = O} rules xs place =
    ap (λ us. outputs {C = C} {O = O} (outputs_from rules (replay rules (take place xs)) place us)) (part_none xs place)

-- those up to a place and those after it
pub between_joins : {S C O : Type 0} (rules : Rules S C O) (xs : List C) (from mid to : ℕ) → from ≤ mid → mid ≤ to → mid ≤ length xs →
    outputs (outputs_between rules xs from mid) ++ outputs (outputs_between rules xs mid to) ≡ outputs (outputs_between rules xs from to)
between_joins {S = S} {C = C} {O = O} rules xs from mid to low high within =
    let long : length (take mid xs) ≡ mid = length-take-le mid xs within in
    let at : from + length (drop from (take mid xs)) ≡ mid = omega (arith, length-drop from (take mid xs), long, low) in
    let s : S = replay rules (take from xs) in
    let one = outputs_from rules s from (drop from (take mid xs)) in
    sym (ap (λ us. outputs {C = C} {O = O} (outputs_from rules s from us)) (parts_join xs from mid to low high within)
    ∙ ap outputs (outputs_from-append rules s from (drop from (take mid xs)) (drop mid (take to xs)))
    ∙ outputs-append one (outputs_from rules (replay_from rules s (drop from (take mid xs))) (from + length (drop from (take mid xs))) (drop mid (take to xs)))
    ∙ ap (λ k. outputs one ++ outputs {C = C} {O = O} (outputs_from rules (replay_from rules s (drop from (take mid xs))) k (drop mid (take to xs)))) at
    ∙ ap (λ t. outputs one ++ outputs {C = C} {O = O} (outputs_from rules t mid (drop mid (take to xs))))
    (replay_goes_on rules s xs from mid low refl))

-- a list that begins with the places up to there gives the same
pub front_between : {S C O : Type 0} (rules : Rules S C O) (log xs : List C) (from to : ℕ) → from ≤ to → to ≤ length log →
    IsPrefixOf (take to log) xs → outputs (outputs_between rules log from to) ≡ outputs (outputs_between rules xs from to)
front_between {S = S} {C = C} {O = O} rules log xs from to rising within front =
    let long : length (take to log) ≡ to = length-take-le to log within in
    ap outputs (same_outputs rules log xs from to rising
    (sym (take_prefix to front (omega (arith, long)) ∙ take-take to to log (omega arith))))
