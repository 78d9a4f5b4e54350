use Rattle.admin.proofs.PagesTurned.{pages_skip_no_session}
use Rattle.admin.proofs.theorems.pages_skip_no_session.Goals as goal

pub returns : goal.returns
returns c = pages_skip_no_session
