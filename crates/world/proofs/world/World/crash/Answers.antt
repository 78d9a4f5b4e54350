use Rattle.std.proofs.Common.{false, inl, refl}
use Rattle.std.proofs.lemmas.Bool.{both_ways}
use Rattle.world_base.specs.declared.node_core.item.Item.TheVariants.{Crash}
use Rattle.world.specs.World.{WorldState}
use Rattle.world.proofs.GroupGoes.{by_call, goes_apart}
use Rattle.world.proofs.ItemsMet.{crashed}
use Rattle.world.proofs.Joined.{goes_on_join}
use Rattle.world.proofs.QuietEvents.{item_quiet}
use Rattle.world.proofs.world.World.crash.Goals as goal

pub returns-in_err-crash-clause-goes : goal.returns-in_err-crash-clause-goes
returns-in_err-crash-clause-goes c =
    rw (← c.self.view_is) (goes_apart (let old : WorldState = record {
      nodes = c.self.inside.nodes;
      clients = c.self.inside.clients.items;
      connections = c.self.inside.connections.items;
      losses = c.self.inside.losses;
    } in old) c.crash.new.self c.crash.ensures.rises
    (by_call c.crash.result c.self.inside.nodes c.crash.new.self _ _ refl c.crash.ensures.acts c.crash.ensures.same))

pub returns-clause-goes : goal.returns-clause-goes
returns-clause-goes c =
    rw (← c.self.view_is) (goes_on_join _ _ _
    (goes_apart (let old : WorldState = record {
      nodes = c.self.inside.nodes;
      clients = c.self.inside.clients.items;
      connections = c.self.inside.connections.items;
      losses = c.self.inside.losses;
    } in old) c.crash.new.self c.crash.ensures.rises
    (by_call c.crash.result c.self.inside.nodes c.crash.new.self _ _ refl c.crash.ensures.acts c.crash.ensures.same)) c.gather.ensures.goes)

pub returns-clause-meets : goal.returns-clause-meets
returns-clause-meets c =
    rw (← c.self.view_is) (inl (crashed c.args.node (let old : WorldState = record {
      nodes = c.self.inside.nodes;
      clients = c.self.inside.clients.items;
      connections = c.self.inside.connections.items;
      losses = c.self.inside.losses;
    } in old) c.crash.new.self c.gather.new.self (λ stopped. both_ways false refl (c.in_ok-crash.ensures.idle.1 stopped))
    c.in_ok-crash.ensures.lossy c.gather.ensures.gathers c.gather.ensures.still))

pub returns-clause-quiet : goal.returns-clause-quiet
returns-clause-quiet c =
    rw (← c.self.view_is) (λ quiet. item_quiet c.args.node Crash c.self.inside.nodes c.crash.new.self c.gather.new.self.nodes quiet c.in_ok-crash.ensures.quiet c.gather.ensures.quiet)
