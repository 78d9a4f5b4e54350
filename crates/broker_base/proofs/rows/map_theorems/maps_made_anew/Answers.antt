use Rattle.broker_base.proofs.of_rows.maps.MadeAnew.{owners_made_anew, index_made_anew}
use Rattle.broker_base.proofs.rows.map_theorems.maps_made_anew.Goals as goal

pub returns : goal.returns
returns c = record { owners = owners_made_anew; content = index_made_anew }
