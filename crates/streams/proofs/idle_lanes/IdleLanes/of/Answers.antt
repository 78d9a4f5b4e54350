use Rattle.std.proofs.Common.{arith, rules}
use Rattle.streams.proofs.LanesAdded.{none_of, of_all, one_more}
use Rattle.streams.proofs.idle_lanes.IdleLanes.of.Goals as goal

pub loop-port-init : goal.loop-port-init
loop-port-init c = λ port. none_of port.0

pub loop-port-preserved : goal.loop-port-preserved
loop-port-preserved c = λ port.
    one_more c.loop-port.lanes c.add-lanes.result c.args.ports.now c.loop-port.port-index _ port (omega arith)
    (c.add-lanes.ensures port) (c.loop-port.invariant port)

pub returns : goal.returns
returns c = λ port.
    of_all c.loop-port.lanes c.args.ports.now c.loop-port.port-index port (search rules) (c.loop-port.invariant port)
