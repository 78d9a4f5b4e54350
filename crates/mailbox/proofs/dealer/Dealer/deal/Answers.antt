use Rattle.std.proofs.Common.{ap, arith}
use Rattle.mailbox.proofs.PassesKeepTheRule.{deals}
use Rattle.mailbox.proofs.dealer.Dealer.deal.Goals as goal

pub another-requires-clause-rule : goal.another-requires-clause-rule
another-requires-clause-rule g c =
    let role = c.self.invariant.role in
    deals _ _ (ap (λ v. v.is_of_receiver) role) (omega (arith, ap (λ v. v.may_send) role, c.requires.few))
