use Rattle.broker_spec.proofs.FilterHasLastGranting.{filter_has_last_granting}
use Rattle.broker_spec.proofs.theorems.filter_has_last_granting.Goals as goal

pub returns : goal.returns
returns c = filter_has_last_granting
