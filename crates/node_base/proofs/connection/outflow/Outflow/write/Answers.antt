use Rattle.node_base.proofs.of_connection.StreamStaysWhole.{stays_whole}
use Rattle.node_base.proofs.connection.outflow.Outflow.write.Goals as goal

pub invariant_of-self : goal.invariant_of-self
invariant_of-self g c = stays_whole g.T.Tap.opens g.T.Tap.hands c.write_out.result _ _ _ _ _ _ c.self.invariant c.write_out.ensures.flows

pub returns-clause-whole : goal.returns-clause-whole
returns-clause-whole g c = stays_whole g.T.Tap.opens g.T.Tap.hands c.write_out.result _ _ _ _ _ _ c.self.invariant c.write_out.ensures.flows
