-- What holds of each publication of a client, if what it carries is its own, and none is new twice.
use Rattle.broker_spec.specs.Place.{Limits}
use Rattle.lists.specs.Lists.{IsDistinct}
use Rattle.exactly_once.specs.Carried.{new_numbers}
use Rattle.exactly_once.specs.Headline.{EachPublished}
use Rattle.exactly_once.specs.Story.{Story}
use Rattle.exactly_once.proofs.Entering.{entering, entering_as}
use Rattle.exactly_once.proofs.carrying.Answered.{answered_is_new, acknowledged_is_taken, new_taken, carried_is_own}
use Rattle.exactly_once.proofs.carrying.EntersOnce.{publication_enters_once}
use Rattle.exactly_once.proofs.carrying.KeepsPlaces.{IsCarried}

pub each_published : (limits : Limits) (s : Story) → IsCarried limits s → IsDistinct (new_numbers s.connections s.past) → EachPublished limits s
each_published limits s carried apart =
    record {
      carried = carried_is_own limits s carried;
      taken = new_taken limits s carried;
      answered = answered_is_new limits s carried;
      enters_once = publication_enters_once limits s carried apart;
      enters = entering limits s;
      enters_as = λ place below x p d stands. entering_as limits s.keeper.client place below x p d;
      acknowledged = acknowledged_is_taken limits s carried;
    }
