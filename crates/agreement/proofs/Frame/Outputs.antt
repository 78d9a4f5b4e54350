-- Outputs.antt: outputs are no messages, and the least of the progress is at most each.
use Rattle.std.proofs.Common.{◌≡◌, ℕ, ◌+◌, ◌≤◌, min, List, [], ◌∷◌, ◌++◌, map, refl, ap, ◌∙◌, arith}
use Rattle.machine.specs.Machine.{Rules}
use Rattle.agreement.specs.whole_logs.Messages.Effect.{Out}
use Rattle.ballot_base.specs.declared.status.Progress.{Progress}
use Rattle.agreement.specs.whole_logs.Application.{outputs_from}
use Rattle.ballot_base.specs.Service.{least}
use Rattle.ballot_base.proofs.StepRows.{least-le}
use Rattle.agreement.specs.World.{messages}
use Rattle.lists.specs.Lists.{In}
use Rattle.lists.specs.Lists.In.{here, there}
use Rattle.agreement.proofs.Effects.{messages-append}

-- the least of the progress is at most each of them
pub least_le_reached : (held : ℕ) (reached : Progress) (progress : List Progress) → In reached progress → least held progress ≤ reached.held
least_le_reached held reached [] i = elim i [ ]
least_le_reached held reached (m ∷ progress) here = let l = least-le (min held m.held) progress in omega (arith, l)
least_le_reached held reached (m ∷ progress) (there i) = least_le_reached (min held m.held) reached progress i

-- outputs are no messages
outs_silent : {C O : Type 0} (place : ℕ) (os : List O) → messages {C = C} (map (Out place) os) ≡ []
outs_silent place [] = refl
outs_silent place (o ∷ os) = outs_silent place os

pub outs_from_silent : {S C O : Type 0} (rules : Rules S C O) (s : S) (place : ℕ) (log : List C) → messages (outputs_from rules s place log) ≡ []
outs_from_silent rules s place [] = refl
outs_from_silent {C = C} rules s place (c ∷ log) =
    messages-append (map (Out place) (rules.gives s c)) (outputs_from rules (rules.after s c) (place + 1) log)
    ∙ ap (λ us. us ++ messages (outputs_from rules (rules.after s c) (place + 1) log)) (outs_silent {C = C} place (rules.gives s c))
    ∙ outs_from_silent rules (rules.after s c) (place + 1) log
