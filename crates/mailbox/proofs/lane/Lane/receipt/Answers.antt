use Rattle.std.proofs.Common.{ap}
use Rattle.mailbox.proofs.TellingKeepsTheRule.{lane_knows_so}
use Rattle.mailbox.proofs.lane.Lane.receipt.Goals as goal

pub another-requires-clause-rule : goal.another-requires-clause-rule
another-requires-clause-rule g c = lane_knows_so _ _ (ap (λ v. v.is_of_lane) c.self.invariant.role)
