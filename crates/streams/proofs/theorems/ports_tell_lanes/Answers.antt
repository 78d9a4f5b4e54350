use Rattle.streams.proofs.PortsTell.{ports_tell_lanes}
use Rattle.streams.proofs.theorems.ports_tell_lanes.Goals as goal

pub returns : goal.returns
returns c = ports_tell_lanes
