use Rattle.links.proofs.ParcelsAgain.{other_parcels_are_short}
use Rattle.links.proofs.theorems.other_parcels_are_short.Goals as goal

pub returns : goal.returns
returns c = other_parcels_are_short
