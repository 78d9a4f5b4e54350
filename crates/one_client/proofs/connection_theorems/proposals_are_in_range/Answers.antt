use Rattle.one_client.proofs.ProposedInRange.{proposals_are_in_range}
use Rattle.one_client.proofs.connection_theorems.proposals_are_in_range.Goals as goal

pub returns : goal.returns
returns c = proposals_are_in_range
