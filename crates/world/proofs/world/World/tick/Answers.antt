use Rattle.std.proofs.Common.{false, inl, refl}
use Rattle.std.proofs.lemmas.Bool.{both_ways}
use Rattle.world_base.specs.declared.node_core.item.Item.TheVariants.{Tick}
use Rattle.world.specs.World.{WorldState}
use Rattle.world.proofs.GroupGoes.{by_call, goes_apart}
use Rattle.world.proofs.ItemsMet.{ticked}
use Rattle.world.proofs.Joined.{goes_on_join}
use Rattle.world.proofs.QuietEvents.{item_quiet}
use Rattle.world.proofs.world.World.tick.Goals as goal

pub returns-in_err-tick-clause-goes : goal.returns-in_err-tick-clause-goes
returns-in_err-tick-clause-goes c =
    rw (← c.self.view_is) (goes_apart (let old : WorldState = record {
      nodes = c.self.inside.nodes;
      clients = c.self.inside.clients.items;
      connections = c.self.inside.connections.items;
      losses = c.self.inside.losses;
    } in old) c.tick.new.self c.tick.ensures.rises
    (by_call c.tick.result c.self.inside.nodes c.tick.new.self _ _ refl c.tick.ensures.acts c.tick.ensures.same))

pub returns-clause-goes : goal.returns-clause-goes
returns-clause-goes c =
    rw (← c.self.view_is) (goes_on_join _ _ _
    (goes_apart (let old : WorldState = record {
      nodes = c.self.inside.nodes;
      clients = c.self.inside.clients.items;
      connections = c.self.inside.connections.items;
      losses = c.self.inside.losses;
    } in old) c.tick.new.self c.tick.ensures.rises
    (by_call c.tick.result c.self.inside.nodes c.tick.new.self _ _ refl c.tick.ensures.acts c.tick.ensures.same)) c.gather.ensures.goes)

pub returns-clause-meets : goal.returns-clause-meets
returns-clause-meets c =
    rw (← c.self.view_is) (inl (ticked c.args.node (let old : WorldState = record {
      nodes = c.self.inside.nodes;
      clients = c.self.inside.clients.items;
      connections = c.self.inside.connections.items;
      losses = c.self.inside.losses;
    } in old) c.tick.new.self c.gather.new.self (λ stopped. both_ways false refl (c.in_ok-tick.ensures.idle.1 stopped))
    c.in_ok-tick.ensures.lossy c.gather.ensures.gathers c.gather.ensures.still))

pub returns-clause-quiet : goal.returns-clause-quiet
returns-clause-quiet c =
    rw (← c.self.view_is) (λ quiet. item_quiet c.args.node (Tick 0) c.self.inside.nodes c.tick.new.self c.gather.new.self.nodes quiet c.in_ok-tick.ensures.quiet c.gather.ensures.quiet)
