use Rattle.lists.proofs.Identifiers.{distinct_push}
use Rattle.lists.proofs.theorems.identifiers_stay_apart.Goals as goal

pub returns : goal.returns
returns c = distinct_push
