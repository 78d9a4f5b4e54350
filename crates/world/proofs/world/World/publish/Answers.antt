use Rattle.std.proofs.Common.{◌≤◌, ◌<◌, [], ◌∷◌, length, refl, sym, arith, ◌≡◌, true, false, subst, ap, ◌∙◌}
use Rattle.std.specs.Option.{is_some}
use Rattle.std.proofs.lemmas.Option.{same_Some}
use Rattle.client.specs.Core.{Core}
use Rattle.client_base.specs.Publications.{publish_refusal}
use Rattle.world_pipes.specs.declared.clients.world_client.WorldClient.{WorldClient}
use Rattle.master.proofs.Counting.{get_there}
use Rattle.client_base.specs.Steps.{Call}
use Rattle.world.specs.ClientCalls.{SendsCall, LosesAsking}
use Rattle.world.specs.Cannot.{RefusesCall}
use Rattle.world.specs.Inside.ClientCalls.{with_one_loss}
use Rattle.world.specs.World.{WorldState}
use Rattle.world.proofs.AskedSo.{publish_asked}
use Rattle.world.proofs.CallsMet.{asked_before, call_outcome, client_meets, publish_meets, refuses_publication, takes_publication}
use Rattle.world.proofs.ClientGoes.{housed_still}
use Rattle.world.proofs.Joined.{goes_on_rest}
use Rattle.world.proofs.world.World.publish.Goals as goal

pub returns-in_default-clause-asked : goal.returns-in_default-clause-asked
returns-in_default-clause-asked c = record { asked = []; is = refl; goes = goes_on_rest _ _ refl }

pub invariant_of-self : goal.invariant_of-self
invariant_of-self c =
    let few : c.in-Some.at < length c.self.inside.clients.items = rw (← c.self.view_is) at c.in-Some.ensures.below in
    let found = get_there c.self.inside.clients.items c.in-Some.at c.index_mut.result.now few c.index_mut.ensures.value in (
      housed_still c.self.inside.clients.items c.self.inside.connections.items c.in-Some.at c.index_mut.result.now c.publish_copy-done.new.piped found
          c.publish_copy-done.ensures.leads c.self.invariant.0,
      c.self.invariant.1,
    )

pub returns-clause-asked : goal.returns-clause-asked
returns-clause-asked c =
    let few : c.in-Some.at < length c.self.inside.clients.items = rw (← c.self.view_is) at c.in-Some.ensures.below in
    let found = get_there c.self.inside.clients.items c.in-Some.at c.index_mut.result.now few c.index_mut.ensures.value in
    let first = rw (← c.self.view_is) at c.in-Some.ensures.exact in
    let old : WorldState = record {
      nodes = c.self.inside.nodes;
      clients = c.self.inside.clients.items;
      connections = c.self.inside.connections.items;
      losses = c.self.inside.losses;
    } in
    let rises : old.losses ≤ (with_one_loss old).losses = omega arith in
    rw (← c.self.view_is)
    (publish_asked c.args.client.now c.args.publication.now old c.in-Some.at c.index_mut.result.now c.publish_copy-done.new.piped c.called.new.self (sym first) found
    c.publish_copy-done.result c.called.result c.publish_copy-done.ensures.calls c.publish_copy-done.ensures.goes rises c.called.ensures)

pub returns-clause-meets : goal.returns-clause-meets
returns-clause-meets c =
    let few : c.in-Some.at < length c.self.inside.clients.items = rw (← c.self.view_is) at c.in-Some.ensures.below in
    let found = get_there c.self.inside.clients.items c.in-Some.at c.index_mut.result.now few c.index_mut.ensures.value in
    let before = get_there c.self.inside.clients.items c.in-Some.at c.index.result.now few c.index.ensures in
    let is : c.core.result.now ≡ c.index_mut.result.now.piped.core =
    c.core.ensures ∙ ap (λ (k : WorldClient). k.piped.core) (same_Some c.index.result.now c.index_mut.result.now (sym before ∙ found)) in
    let possible = takes_publication c.args.publication.now c.index_mut.result.now.piped.core (subst (λ (k : Core). is_some (publish_refusal c.args.publication.now k.state) ≡ false) is (sym c.refuses.ensures ∙ c.if-refuses.false)) in
    let first = rw (← c.self.view_is) at c.in-Some.ensures.exact in
    let old : WorldState = record {
      nodes = c.self.inside.nodes;
      clients = c.self.inside.clients.items;
      connections = c.self.inside.connections.items;
      losses = c.self.inside.losses;
    } in
    let call : Call = Call.Publishes c.args.publication.now in
    rw (← c.self.view_is)
    (publish_meets c.args.client.now c.args.publication.now old c.called.result c.called.new.self
    (client_meets c.args.client.now (RefusesCall call) (SendsCall call) (LosesAsking call) old c.in-Some.at c.index_mut.result.now c.publish_copy-done.new.piped c.publish_copy-done.result c.called.result c.called.new.self (sym first) found
    (call_outcome (c.args.publication.now ∷ []) call c.index_mut.result.now.piped c.publish_copy-done.result c.publish_copy-done.new.piped possible c.publish_copy-done.ensures.calls c.publish_copy-done.ensures.goes) c.called.ensures))

pub returns-then-refuses-clause-asked : goal.returns-then-refuses-clause-asked
returns-then-refuses-clause-asked c = record { asked = []; is = refl; goes = goes_on_rest _ _ refl }

pub returns-then-refuses-clause-meets : goal.returns-then-refuses-clause-meets
returns-then-refuses-clause-meets c =
    let few : c.in-Some.at < length c.self.inside.clients.items = rw (← c.self.view_is) at c.in-Some.ensures.below in
    let found = get_there c.self.inside.clients.items c.in-Some.at c.index.result.now few c.index.ensures in
    let first = rw (← c.self.view_is) at c.in-Some.ensures.exact in
    let old : WorldState = record {
      nodes = c.self.inside.nodes;
      clients = c.self.inside.clients.items;
      connections = c.self.inside.connections.items;
      losses = c.self.inside.losses;
    } in
    let refuses = refuses_publication c.args.publication.now c.index.result.now.piped.core (subst (λ (k : Core). is_some (publish_refusal c.args.publication.now k.state) ≡ true) c.core.ensures (sym c.refuses.ensures ∙ c.if-refuses.true)) in
    rw (← c.self.view_is) (asked_before c.args.client.now (RefusesCall (Call.Publishes c.args.publication.now)) old c.in-Some.at c.index.result.now (sym first) found refuses)
