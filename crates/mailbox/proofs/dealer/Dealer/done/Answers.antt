use Rattle.mailbox.proofs.PassesKeepTheRule.{seals}
use Rattle.mailbox.proofs.dealer.Dealer.done.Goals as goal

pub another-spent-requires-clause-rule : goal.another-spent-requires-clause-rule
another-spent-requires-clause-rule g c = seals _ _
