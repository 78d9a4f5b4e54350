-- AppliesInOrder.antt: places that are applied one after another give the replay and its outputs.
use Rattle.std.proofs.Common.{◌≡◌, ℕ, ◌+◌, List, [], ◌∷◌, ◌++◌, length, map, ap, sym, ◌∙◌, append_assoc, arith}
use Rattle.machine.specs.Machine.{Rules, replay_from}
use Rattle.agreement.specs.whole_logs.Messages.{Effect}
use Rattle.agreement.specs.whole_logs.Messages.Effect.{Out}
use Rattle.agreement.specs.whole_logs.Application.{outputs_from}
pub use Rattle.ballot_base.proofs.AppliesInOrder.{replay_from-append, part_none, replay_goes_on}

-- commands after others give what they give in the state that those leave
pub outputs_from-append : {S C O : Type 0} (rules : Rules S C O) (s : S) (place : ℕ) (xs ys : List C) →
    outputs_from rules s place (xs ++ ys)
    ≡ outputs_from rules s place xs
    ++ outputs_from rules (replay_from rules s xs) (place + length xs) ys
outputs_from-append rules s place [] ys =
    ap (λ n. outputs_from rules s n ys) (omega arith)
outputs_from-append rules s place (x ∷ xs) ys =
    let rest = outputs_from-append rules (rules.after s x) (place + 1) xs ys in
    let e : (place + 1) + length xs ≡ place + length (x ∷ xs) = omega arith in
    ap (λ (zs : List (Effect _ _)). map (Out place) (rules.gives s x) ++ zs) rest
    ∙ sym (append_assoc (map (Out place) (rules.gives s x)) _ _)
    ∙ ap (λ n. (map (Out place) (rules.gives s x) ++ outputs_from rules (rules.after s x) (place + 1) xs)
    ++ outputs_from rules (replay_from rules (rules.after s x) xs) n ys) e
