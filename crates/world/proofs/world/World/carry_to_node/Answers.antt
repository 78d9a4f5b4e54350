use Rattle.std.proofs.Common.{arith}
use Rattle.master.proofs.Counting.{get_there}
use Rattle.world.specs.World.{WorldState}
use Rattle.world.proofs.ClientGoes.{housed_still}
use Rattle.world.proofs.HandedOver.{takes_none, takes_nothing_on, takes_on, takes_up_on}
use Rattle.world.proofs.StandsThere.{client_within, pair_within}
use Rattle.world.proofs.world.World.carry_to_node.Goals as goal

pub index_mut-requires : goal.index_mut-requires
index_mut-requires c =
    let stands = rw (← c.self.view_is) at c.requires.stands in
    let few = client_within c.self.inside.clients.items c.self.inside.connections.items c.args.number c.args.slot c.self.invariant.0 stands c.requires.positive in
    omega (arith, few)

pub carry_to_node-requires : goal.carry_to_node-requires
carry_to_node-requires c =
    let stands = rw (← c.self.view_is) at c.requires.stands in
    let few = client_within c.self.inside.clients.items c.self.inside.connections.items c.args.number c.args.slot c.self.invariant.0 stands c.requires.positive in
    let found = get_there c.self.inside.clients.items c.args.slot.client c.index_mut.result.now few c.index_mut.ensures.value in
    pair_within c.self.inside.clients.items c.self.inside.connections.items c.args.number c.args.slot c.index_mut.result.now c.self.invariant.0 stands c.requires.positive found

pub invariant_of-self : goal.invariant_of-self
invariant_of-self c =
    let stands = rw (← c.self.view_is) at c.requires.stands in
    let few = client_within c.self.inside.clients.items c.self.inside.connections.items c.args.number c.args.slot c.self.invariant.0 stands c.requires.positive in
    let found = get_there c.self.inside.clients.items c.args.slot.client c.index_mut.result.now few c.index_mut.ensures.value in (
      housed_still c.self.inside.clients.items c.self.inside.connections.items c.args.slot.client c.index_mut.result.now c.carry_to_node.new.piped found
          c.carry_to_node.ensures.leads c.self.invariant.0,
      c.self.invariant.1,
    )

pub returns-clause-goes : goal.returns-clause-goes
returns-clause-goes c =
    let stands = rw (← c.self.view_is) at c.requires.stands in
    let few = client_within c.self.inside.clients.items c.self.inside.connections.items c.args.number c.args.slot c.self.invariant.0 stands c.requires.positive in
    let found = get_there c.self.inside.clients.items c.args.slot.client c.index_mut.result.now few c.index_mut.ensures.value in
    let old : WorldState = record {
      nodes = c.self.inside.nodes;
      clients = c.self.inside.clients.items;
      connections = c.self.inside.connections.items;
      losses = c.self.inside.losses;
    } in
    rw (← c.self.view_is) (takes_on c.carry_to_node.result old c.args.number c.args.count c.args.slot c.index_mut.result.now c.carry_to_node.new.nodes c.carry_to_node.new.piped c.self.invariant.0
    stands c.requires.positive found c.carry_to_node.ensures.nodes c.carry_to_node.ensures.carries c.carry_to_node.ensures.same c.carry_to_node.ensures.still)

pub returns-clause-carries : goal.returns-clause-carries
returns-clause-carries c =
    let stands = rw (← c.self.view_is) at c.requires.stands in
    let few = client_within c.self.inside.clients.items c.self.inside.connections.items c.args.number c.args.slot c.self.invariant.0 stands c.requires.positive in
    let found = get_there c.self.inside.clients.items c.args.slot.client c.index_mut.result.now few c.index_mut.ensures.value in
    let old : WorldState = record {
      nodes = c.self.inside.nodes;
      clients = c.self.inside.clients.items;
      connections = c.self.inside.connections.items;
      losses = c.self.inside.losses;
    } in
    rw (← c.self.view_is) (takes_up_on c.carry_to_node.result old c.args.number c.args.count c.args.slot c.index_mut.result.now c.carry_to_node.new.nodes c.carry_to_node.new.piped found c.carry_to_node.ensures.carries)

pub returns-clause-idle : goal.returns-clause-idle
returns-clause-idle c =
    let stands = rw (← c.self.view_is) at c.requires.stands in
    let few = client_within c.self.inside.clients.items c.self.inside.connections.items c.args.number c.args.slot c.self.invariant.0 stands c.requires.positive in
    let found = get_there c.self.inside.clients.items c.args.slot.client c.index_mut.result.now few c.index_mut.ensures.value in
    let old : WorldState = record {
      nodes = c.self.inside.nodes;
      clients = c.self.inside.clients.items;
      connections = c.self.inside.connections.items;
      losses = c.self.inside.losses;
    } in
    rw (← c.self.view_is) (takes_nothing_on c.carry_to_node.result old c.args.count c.args.slot c.index_mut.result.now found c.carry_to_node.ensures.idle)

pub returns-clause-same : goal.returns-clause-same
returns-clause-same c =
    let stands = rw (← c.self.view_is) at c.requires.stands in
    let few = client_within c.self.inside.clients.items c.self.inside.connections.items c.args.number c.args.slot c.self.invariant.0 stands c.requires.positive in
    let found = get_there c.self.inside.clients.items c.args.slot.client c.index_mut.result.now few c.index_mut.ensures.value in
    let old : WorldState = record {
      nodes = c.self.inside.nodes;
      clients = c.self.inside.clients.items;
      connections = c.self.inside.connections.items;
      losses = c.self.inside.losses;
    } in
    rw (← c.self.view_is) (takes_none c.carry_to_node.result old c.args.slot c.index_mut.result.now c.carry_to_node.new.nodes c.carry_to_node.new.piped found c.carry_to_node.ensures.same c.carry_to_node.ensures.still)
