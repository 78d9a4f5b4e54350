use Rattle.session_base.proofs.FormAgain.{frozen_is_read}
use Rattle.session_base.proofs.form_theorems.frozen_is_read.Goals as goal

pub returns : goal.returns
returns c = frozen_is_read
