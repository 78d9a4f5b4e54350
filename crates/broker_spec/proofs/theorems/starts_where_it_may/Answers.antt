use Rattle.broker_spec.proofs.StartsWhereItMay.{starts_where_it_may}
use Rattle.broker_spec.proofs.theorems.starts_where_it_may.Goals as goal

pub returns : goal.returns
returns c = starts_where_it_may
