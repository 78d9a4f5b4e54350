use Rattle.cluster.proofs.of_desk.Forms.{form_read, form_written}
use Rattle.cluster.proofs.desk.theorems.states_have_one_form.Goals as goal

pub returns : goal.returns
returns c = record { read = form_read; written = form_written }
