use Rattle.std.proofs.Common.{◌≡◌, ◌≤◌, ◌<◌, true, length, refl, sym, subst, ◌∙◌, arith}
use Rattle.std.proofs.lemmas.Bool.{both_ways}
use Rattle.std.proofs.lemmas.Option.{same_Some}
use Rattle.world_pipes.specs.Piped.{is_holding}
use Rattle.world_pipes.specs.declared.clients.world_client.WorldClient.{WorldClient}
use Rattle.master.proofs.Counting.{get_there}
use Rattle.world.specs.Cannot.{HoldsNone}
use Rattle.world.specs.ClientCalls.{SendsDisconnect, LosesLeaving}
use Rattle.world.specs.Inside.ClientCalls.{with_one_loss}
use Rattle.world.specs.World.{WorldState}
use Rattle.world.proofs.CallsCounted.{call_counted}
use Rattle.world.proofs.CallsMet.{client_meets, disconnect_meets, leave_outcome}
use Rattle.world.proofs.ClientGoes.{housed_still}
use Rattle.world.proofs.Joined.{goes_on_rest}
use Rattle.world.proofs.world.World.disconnect.Goals as goal

pub returns-in_default-clause-goes : goal.returns-in_default-clause-goes
returns-in_default-clause-goes c = goes_on_rest _ _ refl

pub invariant_of-self : goal.invariant_of-self
invariant_of-self c =
    let few : c.in-Some.at < length c.self.inside.clients.items = rw (← c.self.view_is) at c.in-Some.ensures.below in
    let found = get_there c.self.inside.clients.items c.in-Some.at c.index_mut.result.now few c.index_mut.ensures.value in (
      housed_still c.self.inside.clients.items c.self.inside.connections.items c.in-Some.at c.index_mut.result.now c.leave-done.new.piped found
          c.leave-done.ensures.leads c.self.invariant.0,
      c.self.invariant.1,
    )

pub returns-clause-goes : goal.returns-clause-goes
returns-clause-goes c =
    let few : c.in-Some.at < length c.self.inside.clients.items = rw (← c.self.view_is) at c.in-Some.ensures.below in
    let found = get_there c.self.inside.clients.items c.in-Some.at c.index_mut.result.now few c.index_mut.ensures.value in
    let old : WorldState = record {
      nodes = c.self.inside.nodes;
      clients = c.self.inside.clients.items;
      connections = c.self.inside.connections.items;
      losses = c.self.inside.losses;
    } in
    let rises : old.losses ≤ (with_one_loss old).losses = omega arith in
    rw (← c.self.view_is)
    (call_counted old c.in-Some.at c.index_mut.result.now c.leave-done.new.piped c.leave-done.result c.called.result c.called.new.self found
    c.leave-done.ensures.goes rises c.called.ensures).goes

pub returns-clause-meets : goal.returns-clause-meets
returns-clause-meets c =
    let few : c.in-Some.at < length c.self.inside.clients.items = rw (← c.self.view_is) at c.in-Some.ensures.below in
    let found = get_there c.self.inside.clients.items c.in-Some.at c.index_mut.result.now few c.index_mut.ensures.value in
    let before = get_there c.self.inside.clients.items c.in-Some.at c.index.result.now few c.index.ensures in
    let holds = subst (λ (k : WorldClient). is_holding k.piped ≡ true) (same_Some c.index.result.now c.index_mut.result.now (sym before ∙ found)) (sym c.is_open.ensures ∙ c.if-not-is_open.false) in
    let first = rw (← c.self.view_is) at c.in-Some.ensures.exact in
    let old : WorldState = record {
      nodes = c.self.inside.nodes;
      clients = c.self.inside.clients.items;
      connections = c.self.inside.connections.items;
      losses = c.self.inside.losses;
    } in
    rw (← c.self.view_is)
    (disconnect_meets c.args.client.now old c.called.result c.called.new.self
    (client_meets c.args.client.now HoldsNone SendsDisconnect LosesLeaving old c.in-Some.at c.index_mut.result.now c.leave-done.new.piped c.leave-done.result c.called.result c.called.new.self (sym first) found
    (leave_outcome c.index_mut.result.now.piped c.leave-done.result c.leave-done.new.piped (λ no. both_ways _ no holds) c.leave-done.ensures.leaves c.leave-done.ensures.goes) c.called.ensures))

pub returns-then-not-is_open-clause-goes : goal.returns-then-not-is_open-clause-goes
returns-then-not-is_open-clause-goes c = goes_on_rest _ _ refl
