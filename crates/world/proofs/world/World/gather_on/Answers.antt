use Rattle.std.proofs.Common.{arith}
use Rattle.master.proofs.Counting.{get_there}
use Rattle.world_pipes.specs.clients.SlotsAreValid.{targets_of_clients}
use Rattle.world.specs.World.{WorldState}
use Rattle.world.proofs.ClientGoes.{housed_still}
use Rattle.world.proofs.HandedOver.{gathers_on, gathering_goes}
use Rattle.world_pipes.proofs.of_clients.LeadsKept.{led, led_there}
use Rattle.world.proofs.StandsThere.{client_within, pair_within}
use Rattle.world.proofs.world.World.gather_on.Goals as goal

pub invariant_of-self : goal.invariant_of-self
invariant_of-self c =
    let stands = rw (← c.self.view_is) at c.requires.stands in
    let few = client_within c.self.inside.clients.items c.self.inside.connections.items c.args.number c.args.slot c.self.invariant.0 stands c.requires.positive in
    let found = get_there c.self.inside.clients.items c.args.slot.client c.index_mut.result.now few c.index_mut.ensures.value in (
      housed_still c.self.inside.clients.items c.self.inside.connections.items c.args.slot.client c.index_mut.result.now c.hand_down.new.piped found
          c.hand_down.ensures.leads c.self.invariant.0,
      c.self.invariant.1,
    )

pub returns-clause-goes : goal.returns-clause-goes
returns-clause-goes c =
    let stands = rw (← c.self.view_is) at c.requires.stands in
    let few = client_within c.self.inside.clients.items c.self.inside.connections.items c.args.number c.args.slot c.self.invariant.0 stands c.requires.positive in
    let found = get_there c.self.inside.clients.items c.args.slot.client c.index_mut.result.now few c.index_mut.ensures.value in
    rw (← c.self.view_is) (gathering_goes (let old : WorldState = record {
      nodes = c.self.inside.nodes;
      clients = c.self.inside.clients.items;
      connections = c.self.inside.connections.items;
      losses = c.self.inside.losses;
    } in old) c.args.number c.args.slot c.index_mut.result.now c.hand_down.new.nodes c.hand_down.new.piped c.self.invariant.0
    stands c.requires.positive found c.hand_down.ensures.nodes c.hand_down.ensures.may)

pub hand_down-requires : goal.hand_down-requires
hand_down-requires c =
    let stands = rw (← c.self.view_is) at c.requires.stands in
    let few = client_within c.self.inside.clients.items c.self.inside.connections.items c.args.number c.args.slot c.self.invariant.0 stands c.requires.positive in
    let found = get_there c.self.inside.clients.items c.args.slot.client c.index_mut.result.now few c.index_mut.ensures.value in
    pair_within c.self.inside.clients.items c.self.inside.connections.items c.args.number c.args.slot c.index_mut.result.now c.self.invariant.0 stands c.requires.positive found

pub returns-clause-gathers : goal.returns-clause-gathers
returns-clause-gathers c =
    let stands = rw (← c.self.view_is) at c.requires.stands in
    let few = client_within c.self.inside.clients.items c.self.inside.connections.items c.args.number c.args.slot c.self.invariant.0 stands c.requires.positive in
    let found = get_there c.self.inside.clients.items c.args.slot.client c.index_mut.result.now few c.index_mut.ensures.value in
    let old : WorldState = record {
      nodes = c.self.inside.nodes;
      clients = c.self.inside.clients.items;
      connections = c.self.inside.connections.items;
      losses = c.self.inside.losses;
    } in
    let pair = led old.clients c.args.number c.args.slot c.index_mut.result.now (led_there (targets_of_clients old.clients) old.connections c.args.number c.args.slot c.self.invariant.0 stands c.requires.positive) found in
    rw (← c.self.view_is) (gathers_on old c.args.number c.args.slot c.index_mut.result.now pair.pair c.hand_down.result c.hand_down.new.nodes c.hand_down.new.piped found pair.found
    c.hand_down.ensures.puts)

pub index_mut-requires : goal.index_mut-requires
index_mut-requires c =
    let stands = rw (← c.self.view_is) at c.requires.stands in
    let few = client_within c.self.inside.clients.items c.self.inside.connections.items c.args.number c.args.slot c.self.invariant.0 stands c.requires.positive in
    omega (arith, few)
