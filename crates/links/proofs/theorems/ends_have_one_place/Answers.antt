use Rattle.links.proofs.Handing.{one_place}
use Rattle.links.proofs.theorems.ends_have_one_place.Goals as goal

pub returns : goal.returns
returns c = one_place
