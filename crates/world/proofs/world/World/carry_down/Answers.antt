use Rattle.std.proofs.Common.{◌≤◌, refl, arith}
use Rattle.master.proofs.Counting.{get_there}
use Rattle.world.specs.Inside.ClientCalls.{with_one_loss}
use Rattle.world.specs.World.{WorldState}
use Rattle.world.proofs.CallsCounted.{carrying_counted}
use Rattle.world.proofs.ClientGoes.{client_goes_on, housed_still, same_piped}
use Rattle.world.proofs.ItemsMet.{carried_down_meets, carries_none_down}
use Rattle.world.proofs.Joined.{goes_on_rest}
use Rattle.world.proofs.StandsThere.{client_within, pair_within}
use Rattle.world.proofs.world.World.carry_down.Goals as goal

pub returns-in_default-clause-goes : goal.returns-in_default-clause-goes
returns-in_default-clause-goes c = goes_on_rest _ _ refl

pub index_mut-requires : goal.index_mut-requires
index_mut-requires c =
    let stands = rw (← c.self.view_is) at c.in-Some.ensures.stands in
    let few = client_within c.self.inside.clients.items c.self.inside.connections.items c.args.number c.in-Some.slot c.self.invariant.0 stands.1 stands.0 in
    omega (arith, few)

pub carry_down_on-requires : goal.carry_down_on-requires
carry_down_on-requires c =
    let stands = rw (← c.self.view_is) at c.in-Some.ensures.stands in
    let few = client_within c.self.inside.clients.items c.self.inside.connections.items c.args.number c.in-Some.slot c.self.invariant.0 stands.1 stands.0 in
    let found = get_there c.self.inside.clients.items c.in-Some.slot.client c.index_mut.result.now few c.index_mut.ensures.value in
    pair_within c.self.inside.clients.items c.self.inside.connections.items c.args.number c.in-Some.slot c.index_mut.result.now c.self.invariant.0 stands.1 stands.0 found

pub returns-in-Err-clause-goes : goal.returns-in-Err-clause-goes
returns-in-Err-clause-goes c =
    let stands = rw (← c.self.view_is) at c.in-Some.ensures.stands in
    let few = client_within c.self.inside.clients.items c.self.inside.connections.items c.args.number c.in-Some.slot c.self.invariant.0 stands.1 stands.0 in
    let found = get_there c.self.inside.clients.items c.in-Some.slot.client c.index_mut.result.now few c.index_mut.ensures.value in
    rw (← c.self.view_is) (client_goes_on (let old : WorldState = record {
      nodes = c.self.inside.nodes;
      clients = c.self.inside.clients.items;
      connections = c.self.inside.connections.items;
      losses = c.self.inside.losses;
    } in old) c.in-Some.slot.client c.index_mut.result.now c.carry_down_on.new.piped found c.carry_down_on.ensures.goes)

pub returns-in-Err-clause-meets : goal.returns-in-Err-clause-meets
returns-in-Err-clause-meets c =
    let stands = rw (← c.self.view_is) at c.in-Some.ensures.stands in
    let few = client_within c.self.inside.clients.items c.self.inside.connections.items c.args.number c.in-Some.slot c.self.invariant.0 stands.1 stands.0 in
    let found = get_there c.self.inside.clients.items c.in-Some.slot.client c.index_mut.result.now few c.index_mut.ensures.value in
    rw (← c.self.view_is) (
      carries_none_down c.args.number c.in-Some.slot c.args.count (let old : WorldState = record {
        nodes = c.self.inside.nodes;
        clients = c.self.inside.clients.items;
        connections = c.self.inside.connections.items;
        losses = c.self.inside.losses;
      } in old) c.index_mut.result.now c.self.invariant.0 stands.1 stands.0 found c.in-Err.ensures.idle,
      same_piped (let old : WorldState = record {
        nodes = c.self.inside.nodes;
        clients = c.self.inside.clients.items;
        connections = c.self.inside.connections.items;
        losses = c.self.inside.losses;
      } in old) c.in-Some.slot.client c.index_mut.result.now c.carry_down_on.new.piped found c.in-Err.ensures.same,
    )

pub invariant_of-self : goal.invariant_of-self
invariant_of-self c =
    let stands = rw (← c.self.view_is) at c.in-Some.ensures.stands in
    let few = client_within c.self.inside.clients.items c.self.inside.connections.items c.args.number c.in-Some.slot c.self.invariant.0 stands.1 stands.0 in
    let found = get_there c.self.inside.clients.items c.in-Some.slot.client c.index_mut.result.now few c.index_mut.ensures.value in (
      housed_still c.self.inside.clients.items c.self.inside.connections.items c.in-Some.slot.client c.index_mut.result.now c.carry_down_on.new.piped found
          c.carry_down_on.ensures.leads c.self.invariant.0,
      c.self.invariant.1,
    )

pub returns-in-Ok-clause-goes : goal.returns-in-Ok-clause-goes
returns-in-Ok-clause-goes c =
    let stands = rw (← c.self.view_is) at c.in-Some.ensures.stands in
    let few = client_within c.self.inside.clients.items c.self.inside.connections.items c.args.number c.in-Some.slot c.self.invariant.0 stands.1 stands.0 in
    let found = get_there c.self.inside.clients.items c.in-Some.slot.client c.index_mut.result.now few c.index_mut.ensures.value in
    let old : WorldState = (let old : WorldState = record {
      nodes = c.self.inside.nodes;
      clients = c.self.inside.clients.items;
      connections = c.self.inside.connections.items;
      losses = c.self.inside.losses;
    } in old) in
    let rises : old.losses ≤ (with_one_loss old).losses = omega arith in
    rw (← c.self.view_is)
    (carrying_counted old c.in-Some.slot.client c.index_mut.result.now c.carry_down_on.new.piped c.in-Ok.whole c.count_unless.new.self found c.carry_down_on.ensures.goes rises
    c.count_unless.ensures)

pub returns-in-Ok-clause-meets : goal.returns-in-Ok-clause-meets
returns-in-Ok-clause-meets c =
    let stands = rw (← c.self.view_is) at c.in-Some.ensures.stands in
    let few = client_within c.self.inside.clients.items c.self.inside.connections.items c.args.number c.in-Some.slot c.self.invariant.0 stands.1 stands.0 in
    let found = get_there c.self.inside.clients.items c.in-Some.slot.client c.index_mut.result.now few c.index_mut.ensures.value in
    rw (← c.self.view_is)
    (carried_down_meets c.args.number c.in-Some.slot c.args.count c.in-Ok.whole (let old : WorldState = record {
      nodes = c.self.inside.nodes;
      clients = c.self.inside.clients.items;
      connections = c.self.inside.connections.items;
      losses = c.self.inside.losses;
    } in old) c.index_mut.result.now c.carry_down_on.new.piped c.count_unless.new.self c.self.invariant.0 stands.1 stands.0 found c.in-Ok.ensures.carries
    c.count_unless.ensures)
