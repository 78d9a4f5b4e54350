use Rattle.std.proofs.Common.{◌∙◌, ap}
use Rattle.mailbox.proofs.TellingKeepsTheRule.{ends, hears}
use Rattle.mailbox.proofs.lane.Lane.end.Goals as goal

pub absorb-requires-clause-rule : goal.absorb-requires-clause-rule
absorb-requires-clause-rule g c = hears _ _ _ _

pub another-requires-clause-rule : goal.another-requires-clause-rule
another-requires-clause-rule g c =
    ends _ _ (ap (λ v. v.is_of_lane) c.absorb.ensures.rule ∙ ap (λ v. v.is_of_lane) c.self.invariant.role)
