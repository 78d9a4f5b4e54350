use Rattle.broker_spec.proofs.EntriesGrow.{entries_only_grow}
use Rattle.broker_spec.proofs.theorems.entries_only_grow.Goals as goal

pub returns : goal.returns
returns c = entries_only_grow
