use Rattle.broker_base.proofs.of_rows.OwnerByMap.{owner_by_map}
use Rattle.broker_base.proofs.rows.theorems.owner_is_found_by_map.Goals as goal

pub returns : goal.returns
returns c = owner_by_map
