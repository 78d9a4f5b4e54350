use Rattle.std.proofs.Common.{◌≤◌, ◌<◌, [], length, refl, sym, arith, ◌≡◌, true, false, subst, ap, ◌∙◌}
use Rattle.std.specs.Option.{is_some}
use Rattle.std.proofs.lemmas.Option.{same_Some}
use Rattle.client.specs.Core.{Core}
use Rattle.client_base.specs.Steps.{request_refusal}
use Rattle.world_pipes.specs.declared.clients.world_client.WorldClient.{WorldClient}
use Rattle.master.proofs.Counting.{get_there}
use Rattle.client_base.specs.Steps.{Call}
use Rattle.world.specs.ClientCalls.{SendsCall, LosesAsking}
use Rattle.world.specs.Cannot.{RefusesCall}
use Rattle.world.specs.Inside.ClientCalls.{with_one_loss}
use Rattle.world.specs.World.{WorldState}
use Rattle.world.proofs.CallsCounted.{call_counted}
use Rattle.world.proofs.CallsMet.{asked_before, call_outcome, client_meets, subscribe_meets, refuses_filter, takes_filter}
use Rattle.world.proofs.ClientGoes.{housed_still}
use Rattle.world.proofs.Joined.{goes_on_rest}
use Rattle.world.proofs.world.World.subscribe.Goals as goal

pub returns-in_default-clause-goes : goal.returns-in_default-clause-goes
returns-in_default-clause-goes c = goes_on_rest _ _ refl

pub invariant_of-self : goal.invariant_of-self
invariant_of-self c =
    let few : c.in-Some.at < length c.self.inside.clients.items = rw (← c.self.view_is) at c.in-Some.ensures.below in
    let found = get_there c.self.inside.clients.items c.in-Some.at c.index_mut.result.now few c.index_mut.ensures.value in (
      housed_still c.self.inside.clients.items c.self.inside.connections.items c.in-Some.at c.index_mut.result.now c.subscribe_copy-done.new.piped found
          c.subscribe_copy-done.ensures.leads c.self.invariant.0,
      c.self.invariant.1,
    )

pub returns-clause-goes : goal.returns-clause-goes
returns-clause-goes c =
    let few : c.in-Some.at < length c.self.inside.clients.items = rw (← c.self.view_is) at c.in-Some.ensures.below in
    let found = get_there c.self.inside.clients.items c.in-Some.at c.index_mut.result.now few c.index_mut.ensures.value in
    let old : WorldState = record {
      nodes = c.self.inside.nodes;
      clients = c.self.inside.clients.items;
      connections = c.self.inside.connections.items;
      losses = c.self.inside.losses;
    } in
    let rises : old.losses ≤ (with_one_loss old).losses = omega arith in
    rw (← c.self.view_is)
    (call_counted old c.in-Some.at c.index_mut.result.now c.subscribe_copy-done.new.piped c.subscribe_copy-done.result c.called.result c.called.new.self found
    c.subscribe_copy-done.ensures.goes rises c.called.ensures).goes

pub returns-clause-meets : goal.returns-clause-meets
returns-clause-meets c =
    let few : c.in-Some.at < length c.self.inside.clients.items = rw (← c.self.view_is) at c.in-Some.ensures.below in
    let found = get_there c.self.inside.clients.items c.in-Some.at c.index_mut.result.now few c.index_mut.ensures.value in
    let before = get_there c.self.inside.clients.items c.in-Some.at c.index.result.now few c.index.ensures in
    let is : c.core.result.now ≡ c.index_mut.result.now.piped.core =
    c.core.ensures ∙ ap (λ (k : WorldClient). k.piped.core) (same_Some c.index.result.now c.index_mut.result.now (sym before ∙ found)) in
    let possible = takes_filter c.args.filter.now c.args.qos c.index_mut.result.now.piped.core (subst (λ (k : Core). is_some (request_refusal k.state) ≡ false) is (sym c.refuses_requests.ensures ∙ c.if-refuses_requests.false)) in
    let first = rw (← c.self.view_is) at c.in-Some.ensures.exact in
    let old : WorldState = record {
      nodes = c.self.inside.nodes;
      clients = c.self.inside.clients.items;
      connections = c.self.inside.connections.items;
      losses = c.self.inside.losses;
    } in
    let call : Call = Call.Subscribes c.args.filter.now c.args.qos in
    rw (← c.self.view_is)
    (subscribe_meets c.args.client.now c.args.filter.now c.args.qos old c.called.result c.called.new.self
    (client_meets c.args.client.now (RefusesCall call) (SendsCall call) (LosesAsking call) old c.in-Some.at c.index_mut.result.now c.subscribe_copy-done.new.piped c.subscribe_copy-done.result c.called.result c.called.new.self (sym first) found
    (call_outcome [] call c.index_mut.result.now.piped c.subscribe_copy-done.result c.subscribe_copy-done.new.piped possible.0 c.subscribe_copy-done.ensures.calls c.subscribe_copy-done.ensures.goes) c.called.ensures))

pub returns-then-refuses_requests-clause-goes : goal.returns-then-refuses_requests-clause-goes
returns-then-refuses_requests-clause-goes c = goes_on_rest _ _ refl

pub returns-then-refuses_requests-clause-meets : goal.returns-then-refuses_requests-clause-meets
returns-then-refuses_requests-clause-meets c =
    let few : c.in-Some.at < length c.self.inside.clients.items = rw (← c.self.view_is) at c.in-Some.ensures.below in
    let found = get_there c.self.inside.clients.items c.in-Some.at c.index.result.now few c.index.ensures in
    let first = rw (← c.self.view_is) at c.in-Some.ensures.exact in
    let old : WorldState = record {
      nodes = c.self.inside.nodes;
      clients = c.self.inside.clients.items;
      connections = c.self.inside.connections.items;
      losses = c.self.inside.losses;
    } in
    let refuses = refuses_filter c.args.filter.now c.args.qos c.index.result.now.piped.core (subst (λ (k : Core). is_some (request_refusal k.state) ≡ true) c.core.ensures (sym c.refuses_requests.ensures ∙ c.if-refuses_requests.true)) in
    rw (← c.self.view_is) (asked_before c.args.client.now (RefusesCall (Call.Subscribes c.args.filter.now c.args.qos)) old c.in-Some.at c.index.result.now (sym first) found refuses.0)
