use Rattle.std.proofs.Common.{inl, ◌<◌, length, refl, sym, ◌∙◌, ◌≡◌, true, subst}
use Rattle.std.proofs.lemmas.Option.{same_Some}
use Rattle.world_pipes.specs.Piped.{is_holding}
use Rattle.world_pipes.specs.declared.clients.world_client.WorldClient.{WorldClient}
use Rattle.master.proofs.Counting.{get_there}
use Rattle.world.specs.World.{WorldState}
use Rattle.world.proofs.CallsMet.{abandon_meets}
use Rattle.world.proofs.ClientGoes.{client_goes_on, housed_still}
use Rattle.world.proofs.Joined.{goes_on_rest}
use Rattle.world.proofs.world.World.abandon.Goals as goal

pub returns-in_default-clause-goes : goal.returns-in_default-clause-goes
returns-in_default-clause-goes c = goes_on_rest _ _ refl

pub returns-then-not-is_open-clause-goes : goal.returns-then-not-is_open-clause-goes
returns-then-not-is_open-clause-goes c = goes_on_rest _ _ refl

pub invariant_of-self : goal.invariant_of-self
invariant_of-self c =
    let few : c.in-Some.at < length c.self.inside.clients.items = rw (← c.self.view_is) at c.in-Some.ensures.below in
    let found = get_there c.self.inside.clients.items c.in-Some.at c.index_mut.result.now few c.index_mut.ensures.value in (
      housed_still c.self.inside.clients.items c.self.inside.connections.items c.in-Some.at c.index_mut.result.now c.lose_connection.new.piped found
          c.lose_connection.ensures.leads c.self.invariant.0,
      c.self.invariant.1,
    )

pub returns-clause-goes : goal.returns-clause-goes
returns-clause-goes c =
    let few : c.in-Some.at < length c.self.inside.clients.items = rw (← c.self.view_is) at c.in-Some.ensures.below in
    let found = get_there c.self.inside.clients.items c.in-Some.at c.index_mut.result.now few c.index_mut.ensures.value in
    let old : WorldState = record {
      nodes = c.self.inside.nodes;
      clients = c.self.inside.clients.items;
      connections = c.self.inside.connections.items;
      losses = c.self.inside.losses;
    } in
    rw (← c.self.view_is) (client_goes_on old c.in-Some.at c.index_mut.result.now c.lose_connection.new.piped found c.lose_connection.ensures.goes)

pub returns-clause-meets : goal.returns-clause-meets
returns-clause-meets c =
    let few : c.in-Some.at < length c.self.inside.clients.items = rw (← c.self.view_is) at c.in-Some.ensures.below in
    let found = get_there c.self.inside.clients.items c.in-Some.at c.index_mut.result.now few c.index_mut.ensures.value in
    let before = get_there c.self.inside.clients.items c.in-Some.at c.index.result.now few c.index.ensures in
    let first = rw (← c.self.view_is) at c.in-Some.ensures.exact in
    let old : WorldState = record {
      nodes = c.self.inside.nodes;
      clients = c.self.inside.clients.items;
      connections = c.self.inside.connections.items;
      losses = c.self.inside.losses;
    } in
    rw (← c.self.view_is)
    (inl (abandon_meets c.args.client.now old c.in-Some.at c.index_mut.result.now c.lose_connection.new.piped (sym first) found
    (subst (λ (k : WorldClient). is_holding k.piped ≡ true) (same_Some c.index.result.now c.index_mut.result.now (sym before ∙ found)) (sym c.is_open.ensures ∙ c.if-not-is_open.false)) c.lose_connection.ensures.lost))
