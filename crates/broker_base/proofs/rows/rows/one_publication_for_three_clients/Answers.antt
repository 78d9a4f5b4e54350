use Rattle.std.proofs.Common.{refl}
use Rattle.broker_base.proofs.rows.rows.one_publication_for_three_clients.Goals as goal

pub returns : goal.returns
returns c = record { granted = refl; sessions = refl; answers = refl }
