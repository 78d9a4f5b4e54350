use Rattle.notices.proofs.EscapedTexts.{has_no_control, reads_back}
use Rattle.notices.proofs.theorems.quoted_texts_are_json.Goals as goal

pub returns-clause-reads_back : goal.returns-clause-reads_back
returns-clause-reads_back c = reads_back

pub returns-clause-one_line : goal.returns-clause-one_line
returns-clause-one_line c = has_no_control
