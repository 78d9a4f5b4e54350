use Rattle.std.proofs.Common.{refl}
use Rattle.session_base.proofs.form_theorems.full_session_is_frozen.Goals as goal

pub returns : goal.returns
returns c = refl
