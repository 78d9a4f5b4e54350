use Rattle.broker_base.proofs.of_rows.maps.OwnersLeave.{leaving_removes_the_owner, start_removes_the_owners}
use Rattle.broker_base.proofs.rows.map_theorems.owners_of_end.Goals as goal

pub returns : goal.returns
returns c = record { leaving = leaving_removes_the_owner; start = start_removes_the_owners }
