use Rattle.session_base.proofs.Spelled.{read_is_frozen}
use Rattle.session_base.proofs.form_theorems.read_is_frozen.Goals as goal

pub returns : goal.returns
returns c = read_is_frozen
