use Rattle.std.proofs.Common.{◌≡◌, true, Option, Some, None, refl, is_some}
use Rattle.broker_spec.specs.Owner.{owner_of}
use Rattle.broker_spec.specs.Place.{Client}
use Rattle.broker_spec.proofs.OwnersAreServed.{owner_is_served}
use Rattle.core_tests.proofs.readings.live_connections_are_current.Goals as goal

is_there : (owner : Option Client) → is_some owner ≡ true → (c : Client) × (owner ≡ Some c)
is_there None live = cc
is_there (Some c) live = (c, refl)

pub returns : goal.returns
returns c = λ past x live.
    let owner = is_there (owner_of past x) live in
    (owner.0, owner_is_served past x owner.0 owner.1)
