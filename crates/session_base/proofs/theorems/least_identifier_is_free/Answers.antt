use Rattle.session_base.proofs.IdentifiersOfFills.{least_free_is}
use Rattle.session_base.proofs.theorems.least_identifier_is_free.Goals as goal

pub returns : goal.returns
returns c = least_free_is
