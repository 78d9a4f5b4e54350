use Rattle.std.proofs.Common.{refl}
use Rattle.broker_base.proofs.step_theorems.rows_step_by_step.Goals as goal

pub returns : goal.returns
returns c = record { full_queue = refl; order = refl; window = refl }
