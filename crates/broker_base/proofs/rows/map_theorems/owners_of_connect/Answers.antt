use Rattle.broker_base.proofs.of_rows.maps.OwnersConnect.{connecting_sets_the_owner, resuming_sets_the_owner}
use Rattle.broker_base.proofs.rows.map_theorems.owners_of_connect.Goals as goal

pub returns : goal.returns
returns c = record { begins = connecting_sets_the_owner; resumes = resuming_sets_the_owner }
