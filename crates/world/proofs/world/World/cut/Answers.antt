use Rattle.std.proofs.Common.{false, inl, refl}
use Rattle.std.proofs.lemmas.Bool.{both_ways}
use Rattle.world.specs.World.{WorldState}
use Rattle.world.proofs.GroupGoes.{by_cut, goes_apart}
use Rattle.world.proofs.ItemsMet.{cut_done}
use Rattle.world.proofs.Joined.{goes_on_join}
use Rattle.world.proofs.world.World.cut.Goals as goal

pub returns-in_err-cut-clause-goes : goal.returns-in_err-cut-clause-goes
returns-in_err-cut-clause-goes c =
    rw (← c.self.view_is) (goes_apart (let old : WorldState = record {
      nodes = c.self.inside.nodes;
      clients = c.self.inside.clients.items;
      connections = c.self.inside.connections.items;
      losses = c.self.inside.losses;
    } in old) c.cut.new.self c.cut.ensures.rises
    (by_cut c.cut.result c.self.inside.nodes c.cut.new.self c.args.node c.cut.ensures.acts c.cut.ensures.same))

pub returns-clause-goes : goal.returns-clause-goes
returns-clause-goes c =
    rw (← c.self.view_is) (goes_on_join _ _ _
    (goes_apart (let old : WorldState = record {
      nodes = c.self.inside.nodes;
      clients = c.self.inside.clients.items;
      connections = c.self.inside.connections.items;
      losses = c.self.inside.losses;
    } in old) c.cut.new.self c.cut.ensures.rises
    (by_cut c.cut.result c.self.inside.nodes c.cut.new.self c.args.node c.cut.ensures.acts c.cut.ensures.same)) c.gather.ensures.goes)

pub returns-clause-meets : goal.returns-clause-meets
returns-clause-meets c =
    rw (← c.self.view_is) (inl (cut_done c.args.node (let old : WorldState = record {
      nodes = c.self.inside.nodes;
      clients = c.self.inside.clients.items;
      connections = c.self.inside.connections.items;
      losses = c.self.inside.losses;
    } in old) c.cut.new.self c.gather.new.self (λ stopped. both_ways false refl (c.in_ok-cut.ensures.idle.1 stopped))
    c.in_ok-cut.ensures.lossy c.in_ok-cut.ensures.exact c.gather.ensures.gathers c.gather.ensures.still))
