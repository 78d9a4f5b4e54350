use Rattle.std.proofs.Common.{false, inl, refl}
use Rattle.std.proofs.lemmas.Bool.{both_ways}
use Rattle.world.specs.World.{WorldState}
use Rattle.world.proofs.GroupGoes.{by_expel, goes_apart}
use Rattle.world.proofs.ItemsMet.{expelled, may_expel, no_client}
use Rattle.world.proofs.Joined.{goes_on_join, goes_on_rest}
use Rattle.world.proofs.world.World.expel.Goals as goal

pub returns-then-is_none-clause-goes : goal.returns-then-is_none-clause-goes
returns-then-is_none-clause-goes c = goes_on_rest _ _ refl

pub returns-then-is_none-clause-meets : goal.returns-then-is_none-clause-meets
returns-then-is_none-clause-meets c =
    (inl (no_client c.args.client.now _ c.index_of_client.result c.is_none.result c.index_of_client.ensures.exact c.is_none.ensures c.if-is_none.true), refl)

pub returns-in_err-expel-clause-goes : goal.returns-in_err-expel-clause-goes
returns-in_err-expel-clause-goes c =
    rw (← c.self.view_is) (goes_apart (let old : WorldState = record {
      nodes = c.self.inside.nodes;
      clients = c.self.inside.clients.items;
      connections = c.self.inside.connections.items;
      losses = c.self.inside.losses;
    } in old) c.expel.new.self c.expel.ensures.rises
    (by_expel c.expel.result c.self.inside.nodes c.expel.new.self c.args.node c.args.client.now c.expel.ensures.acts c.expel.ensures.same))

pub returns-clause-goes : goal.returns-clause-goes
returns-clause-goes c =
    rw (← c.self.view_is) (goes_on_join _ _ _
    (goes_apart (let old : WorldState = record {
      nodes = c.self.inside.nodes;
      clients = c.self.inside.clients.items;
      connections = c.self.inside.connections.items;
      losses = c.self.inside.losses;
    } in old) c.expel.new.self c.expel.ensures.rises
    (by_expel c.expel.result c.self.inside.nodes c.expel.new.self c.args.node c.args.client.now c.expel.ensures.acts c.expel.ensures.same)) c.gather.ensures.goes)

pub returns-clause-meets : goal.returns-clause-meets
returns-clause-meets c =
    rw (← c.self.view_is) (inl (expelled c.args.client.now c.args.node (let old : WorldState = record {
      nodes = c.self.inside.nodes;
      clients = c.self.inside.clients.items;
      connections = c.self.inside.connections.items;
      losses = c.self.inside.losses;
    } in old) c.expel.new.self c.gather.new.self
    (may_expel c.args.client.now c.args.node (let old : WorldState = record {
      nodes = c.self.inside.nodes;
      clients = c.self.inside.clients.items;
      connections = c.self.inside.connections.items;
      losses = c.self.inside.losses;
    } in old) c.index_of_client.result c.is_none.result (rw (← c.self.view_is) at c.index_of_client.ensures.exact) c.is_none.ensures c.if-is_none.false
    (λ full. both_ways false refl (c.in_ok-expel.ensures.idle.1 full)))
    c.in_ok-expel.ensures.lossy c.in_ok-expel.ensures.exact c.gather.ensures.gathers c.gather.ensures.still))
