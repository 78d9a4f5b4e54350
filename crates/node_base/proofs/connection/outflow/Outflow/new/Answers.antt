use Rattle.node_base.proofs.of_connection.StreamStaysWhole.{begins_whole}
use Rattle.node_base.proofs.connection.outflow.Outflow.new.Goals as goal

pub invariant_of-result : goal.invariant_of-result
invariant_of-result g c =
    begins_whole g.T.Tap.opens g.T.Tap.hands g.W.Write.contents c.args.tap c.args.device _ _
    c.requires.opens c.requires.empty c.new-device.ensures c.new-left.ensures
