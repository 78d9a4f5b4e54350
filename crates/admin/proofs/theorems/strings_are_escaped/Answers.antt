use Rattle.admin.proofs.BytesEscaped.{has_no_control, reads_back}
use Rattle.admin.proofs.theorems.strings_are_escaped.Goals as goal

pub returns-clause-reads_back : goal.returns-clause-reads_back
returns-clause-reads_back c = reads_back

pub returns-clause-no_control : goal.returns-clause-no_control
returns-clause-no_control c = has_no_control
