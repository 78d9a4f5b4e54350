use Rattle.session_base.proofs.FormFound.{read_has_form}
use Rattle.session_base.proofs.form_theorems.read_has_form.Goals as goal

pub returns : goal.returns
returns c = read_has_form
