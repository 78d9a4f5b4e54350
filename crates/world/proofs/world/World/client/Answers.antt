use Rattle.std.proofs.Common.{◌≡◌, ℕ, List, Some, slice_get, sym, subst, ◌∙◌}
use Rattle.client.specs.Core.{Core}
use Rattle.headline.specs.Promise.{Promise}
use Rattle.headline.specs.byte_world.Published.{published_of, published_on_way}
use Rattle.master.proofs.Counting.{get_there}
use Rattle.world_pipes.specs.declared.clients.world_client.WorldClient.{WorldClient}
use Rattle.world.specs.StandsFor.{connections_at}
use Rattle.world.specs.World.{WorldState}
use Rattle.world.proofs.PromiseShown.{promise_shown, same_place}
use Rattle.world.proofs.world.World.client.Goals as goal

pub returns-clause-promised : goal.returns-clause-promised
returns-clause-promised c =
    let h = c.in_ok-found.ensures in
    let found = subst (λ (l : List WorldClient). slice_get l c.in_ok-at.at ≡ Some c.in_ok-found.found.now) c.deref.ensures.value
    (get_there c.deref.result.now c.in_ok-at.at c.in_ok-found.found.now h.lookup.3.0 h.lookup.1) in
    let here = rw (← c.self.view_is) at c.in_ok-at.ensures.exact in
    let old : WorldState = record {
      nodes = c.self.inside.nodes;
      clients = c.self.inside.clients.items;
      connections = c.self.inside.connections.items;
      losses = c.self.inside.losses;
    } in
    rw (← c.self.view_is)
    (λ nodes config clients r at first.
    subst (λ (k : Core). Promise (connections_at at r.world) (published_of at (published_on_way r.trail)) r.exact.agreed k.state) (sym c.core.ensures)
    (subst (λ (i : ℕ). Promise (connections_at i r.world) (published_of i (published_on_way r.trail)) r.exact.agreed c.in_ok-found.found.now.piped.core.state) (same_place c.in_ok-at.at at (here ∙ first))
    (promise_shown nodes config clients old r c.in_ok-at.at c.in_ok-found.found.now found)))
