use Rattle.world.specs.World.{WorldState}
use Rattle.world.proofs.GroupGoes.{by_assign, goes_apart}
use Rattle.world.proofs.ItemsMet.{assign_meets}
use Rattle.world.proofs.world.World.assign.Goals as goal

pub returns-clause-goes : goal.returns-clause-goes
returns-clause-goes c =
    rw (← c.self.view_is) (goes_apart (let old : WorldState = record {
      nodes = c.self.inside.nodes;
      clients = c.self.inside.clients.items;
      connections = c.self.inside.connections.items;
      losses = c.self.inside.losses;
    } in old) c.assign.new.self c.assign.ensures.rises
    (by_assign c.assign.result c.self.inside.nodes c.assign.new.self c.assign.ensures.acts c.assign.ensures.same))

pub returns-clause-meets : goal.returns-clause-meets
returns-clause-meets c =
    rw (← c.self.view_is) (assign_meets c.assign.result c.args.config.now (let old : WorldState = record {
      nodes = c.self.inside.nodes;
      clients = c.self.inside.clients.items;
      connections = c.self.inside.connections.items;
      losses = c.self.inside.losses;
    } in old) c.assign.new.self c.assign.ensures.lossy c.assign.ensures.idle c.assign.ensures.same)
