use Rattle.headline.proofs.OneSession.{one_session_is_promised}
use Rattle.headline.proofs.theorems.one_session_is_promised.Goals as goal

pub returns : goal.returns
returns c = one_session_is_promised
