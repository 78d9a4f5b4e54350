use Rattle.headline.proofs.of_byte_world.NamesApart.{names_stay_apart}
use Rattle.headline.proofs.byte_world.theorems.names_stay_apart.Goals as goal

pub returns : goal.returns
returns c = names_stay_apart
