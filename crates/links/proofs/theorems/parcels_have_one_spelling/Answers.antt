use Rattle.links.proofs.ParcelsAgain.{parcels_are_read}
use Rattle.links.proofs.ParcelsFound.{read_parcels_are_written}
use Rattle.links.proofs.theorems.parcels_have_one_spelling.Goals as goal

pub returns-clause-read : goal.returns-clause-read
returns-clause-read c = parcels_are_read

pub returns-clause-written : goal.returns-clause-written
returns-clause-written c = read_parcels_are_written
