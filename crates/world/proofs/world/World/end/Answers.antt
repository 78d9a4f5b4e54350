use Rattle.std.proofs.Common.{false, inl, refl}
use Rattle.std.proofs.lemmas.Bool.{both_ways}
use Rattle.world_base.specs.declared.node_core.item.Item.TheVariants.{Ended}
use Rattle.world.specs.Found.{port_at_node}
use Rattle.world.specs.World.{WorldState}
use Rattle.world.proofs.ItemsMet.{not_closed, noticed}
use Rattle.world.proofs.StandsThere.{connected}
use Rattle.world.proofs.GroupGoes.{by_call, goes_apart}
use Rattle.world.proofs.Joined.{goes_on_join}
use Rattle.world.proofs.QuietEvents.{item_quiet}
use Rattle.world.proofs.world.World.end.Goals as goal

pub returns-in_err-end_stream-clause-goes : goal.returns-in_err-end_stream-clause-goes
returns-in_err-end_stream-clause-goes c =
    rw (← c.self.view_is) (goes_apart (let old : WorldState = record {
      nodes = c.self.inside.nodes;
      clients = c.self.inside.clients.items;
      connections = c.self.inside.connections.items;
      losses = c.self.inside.losses;
    } in old) c.end_stream.new.self c.end_stream.ensures.rises
    (by_call c.end_stream.result c.self.inside.nodes c.end_stream.new.self _ _ refl c.end_stream.ensures.acts c.end_stream.ensures.same))

pub returns-clause-goes : goal.returns-clause-goes
returns-clause-goes c =
    rw (← c.self.view_is) (goes_on_join _ _ _
    (goes_apart (let old : WorldState = record {
      nodes = c.self.inside.nodes;
      clients = c.self.inside.clients.items;
      connections = c.self.inside.connections.items;
      losses = c.self.inside.losses;
    } in old) c.end_stream.new.self c.end_stream.ensures.rises
    (by_call c.end_stream.result c.self.inside.nodes c.end_stream.new.self _ _ refl c.end_stream.ensures.acts c.end_stream.ensures.same)) c.gather.ensures.goes)

pub returns-clause-meets : goal.returns-clause-meets
returns-clause-meets c =
    let stands = rw (← c.self.view_is) at c.requires.stands in
    let old : WorldState = record {
      nodes = c.self.inside.nodes;
      clients = c.self.inside.clients.items;
      connections = c.self.inside.connections.items;
      losses = c.self.inside.losses;
    } in
    rw (← c.self.view_is) (inl (noticed c.args.number old (connected old c.args.number c.args.slot c.self.invariant.0 stands c.requires.positive) c.end_stream.new.self c.gather.new.self
    (not_closed c.args.number old c.args.slot stands c.requires.positive c.requires.up (λ stopped. both_ways false refl (c.in_ok-end_stream.ensures.idle.1 stopped)))
    c.in_ok-end_stream.ensures.lossy c.gather.ensures.gathers c.gather.ensures.still))

pub returns-clause-quiet : goal.returns-clause-quiet
returns-clause-quiet c =
    rw (← c.self.view_is) (λ quiet. item_quiet c.args.slot.node (Ended (port_at_node c.args.number)) c.self.inside.nodes c.end_stream.new.self c.gather.new.self.nodes quiet
    c.in_ok-end_stream.ensures.quiet c.gather.ensures.quiet)
