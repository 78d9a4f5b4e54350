use Rattle.world_nodes.proofs.Expelling.{expels_on, may_expel_on, proposes_on}
use Rattle.world_nodes.proofs.nodes.Nodes.expel.Goals as goal

pub returns-in-Ok-clause-lossy : goal.returns-in-Ok-clause-lossy
returns-in-Ok-clause-lossy c = expels_on c.act.result c.args.client.now c.in-Ok.client c.args.node c.args.self.now c.act.new.self c.in-Ok.ensures.cases c.act.ensures.lossy

pub returns-in-Ok-clause-exact : goal.returns-in-Ok-clause-exact
returns-in-Ok-clause-exact c =
    proposes_on c.act.result c.args.client.now c.args.node c.args.self.now c.act.new.self
    (expels_on c.act.result c.args.client.now c.in-Ok.client c.args.node c.args.self.now c.act.new.self c.in-Ok.ensures.cases c.act.ensures.lossy)

pub returns-in-Ok-clause-acts : goal.returns-in-Ok-clause-acts
returns-in-Ok-clause-acts c = may_expel_on c.act.result c.args.client.now c.in-Ok.client c.args.node c.args.self.now c.act.new.self c.in-Ok.ensures.cases c.act.ensures.acts
