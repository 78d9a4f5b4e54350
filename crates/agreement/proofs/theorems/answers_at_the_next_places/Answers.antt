use Rattle.agreement.proofs.Given.NextPlaces.{answers_at_the_next_places}
use Rattle.agreement.proofs.theorems.answers_at_the_next_places.Goals as goal

pub returns : goal.returns
returns g c =
    answers_at_the_next_places g.M.Machine.rules
