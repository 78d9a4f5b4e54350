use Rattle.std.proofs.Common.{refl}
use Rattle.broker_base.proofs.rows.rows.maps_of_three_clients.Goals as goal

pub returns : goal.returns
returns c = record {
  owners = (refl, refl, refl, refl, refl, refl);
  content = (refl, refl, refl, refl, refl, refl, refl);
  start = (refl, refl);
}
