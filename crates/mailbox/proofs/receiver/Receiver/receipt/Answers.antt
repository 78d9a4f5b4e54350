use Rattle.std.proofs.Common.{ap}
use Rattle.mailbox.proofs.TellingKeepsTheRule.{receiver_knows_so}
use Rattle.mailbox.proofs.receiver.Receiver.receipt.Goals as goal

pub another-requires-clause-rule : goal.another-requires-clause-rule
another-requires-clause-rule g c = receiver_knows_so _ _ (ap (λ v. v.is_of_receiver) c.self.invariant.role)
