use Rattle.broker_base.proofs.of_rows.publications.GrantedBySessions.{rows_are}
use Rattle.broker_base.proofs.rows.theorems.granted_rows_match.Goals as goal

pub returns : goal.returns
returns c = rows_are
