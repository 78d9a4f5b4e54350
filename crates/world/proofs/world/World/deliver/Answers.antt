use Rattle.std.proofs.Common.{false, inl, refl, slice_get}
use Rattle.std.proofs.lemmas.Bool.{both_ways}
use Rattle.world.specs.World.{WorldState}
use Rattle.world.proofs.GroupGoes.{by_delivery, goes_apart}
use Rattle.world.proofs.ItemsMet.{delivered}
use Rattle.world.proofs.Joined.{goes_on_join}
use Rattle.world.proofs.QuietEvents.{message_quiet}
use Rattle.world.proofs.world.World.deliver.Goals as goal

pub returns-in_err-deliver-clause-goes : goal.returns-in_err-deliver-clause-goes
returns-in_err-deliver-clause-goes c =
    rw (← c.self.view_is) (goes_apart (let old : WorldState = record {
      nodes = c.self.inside.nodes;
      clients = c.self.inside.clients.items;
      connections = c.self.inside.connections.items;
      losses = c.self.inside.losses;
    } in old) c.deliver.new.self c.deliver.ensures.rises
    (by_delivery c.deliver.result c.self.inside.nodes c.deliver.new.self c.args.number c.deliver.ensures.acts c.deliver.ensures.same))

pub returns-clause-goes : goal.returns-clause-goes
returns-clause-goes c =
    rw (← c.self.view_is) (goes_on_join _ _ _
    (goes_apart (let old : WorldState = record {
      nodes = c.self.inside.nodes;
      clients = c.self.inside.clients.items;
      connections = c.self.inside.connections.items;
      losses = c.self.inside.losses;
    } in old) c.deliver.new.self c.deliver.ensures.rises
    (by_delivery c.deliver.result c.self.inside.nodes c.deliver.new.self c.args.number c.deliver.ensures.acts c.deliver.ensures.same)) c.gather.ensures.goes)

pub returns-clause-meets : goal.returns-clause-meets
returns-clause-meets c =
    let receiver = rw (← c.self.view_is) at c.receiver-receiver.ensures in
    rw (← c.self.view_is) (inl (delivered c.args.number c.receiver-receiver.result (let old : WorldState = record {
      nodes = c.self.inside.nodes;
      clients = c.self.inside.clients.items;
      connections = c.self.inside.connections.items;
      losses = c.self.inside.losses;
    } in old) c.deliver.new.self c.gather.new.self receiver
    (λ nobody. both_ways false refl (c.in_ok-deliver.ensures.idle.1 nobody)) c.in_ok-deliver.ensures.lossy c.in_ok-deliver.ensures.exact c.gather.ensures.gathers c.gather.ensures.still))

pub returns-clause-quiet : goal.returns-clause-quiet
returns-clause-quiet c =
    let receiver = rw (← c.self.view_is) at c.receiver-receiver.ensures in
    rw (← c.self.view_is) (λ quiet. message_quiet (slice_get c.self.inside.nodes.sent c.args.number) c.receiver-receiver.result c.self.inside.nodes c.deliver.new.self c.gather.new.self.nodes
    receiver quiet c.in_ok-deliver.ensures.quiet c.gather.ensures.quiet)
