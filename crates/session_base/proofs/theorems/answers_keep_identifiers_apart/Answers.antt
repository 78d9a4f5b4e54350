use Rattle.session_base.proofs.IdentifiersStayApart.{answers_keep_apart}
use Rattle.session_base.proofs.theorems.answers_keep_identifiers_apart.Goals as goal

pub returns : goal.returns
returns c = answers_keep_apart
