use Rattle.std.proofs.Common.{refl}
use Rattle.broker_base.proofs.step_theorems.entries_start_where_they_are_sent.Goals as goal

pub returns : goal.returns
returns c = record { others = (refl, refl, refl, refl); answers = (refl, refl) }
