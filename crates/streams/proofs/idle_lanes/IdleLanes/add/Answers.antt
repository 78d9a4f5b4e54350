use Rattle.streams.proofs.LanesAdded.{lane_added}
use Rattle.streams.proofs.idle_lanes.IdleLanes.add.Goals as goal

pub returns : goal.returns
returns c = λ other. lane_added c.args.self.0 c.bit.result c.args.port.0 other.0 c.bit.ensures
