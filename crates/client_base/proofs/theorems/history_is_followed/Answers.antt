use Rattle.client_base.proofs.Follows.{calls_follow}
use Rattle.client_base.proofs.theorems.history_is_followed.Goals as goal

pub returns : goal.returns
returns c = calls_follow c.least_identifier_is_free.ensures
