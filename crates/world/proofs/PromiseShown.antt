-- PromiseShown.antt: what a client of a world that is reached shows is as promised.
use Rattle.std.proofs.Common.{◌≡◌, ℕ, List, Option, Some, slice_get, sym, subst}
use Rattle.ballot_base.specs.declared.config.Config.{Config}
use Rattle.broker_spec.specs.Place.{Client}
use Rattle.headline.specs.Promise.{Promise}
use Rattle.headline.specs.byte_world.World.{ClientPipes}
use Rattle.headline.specs.byte_world.Published.{published_of, published_on_way}
use Rattle.world_pipes.specs.declared.clients.world_client.WorldClient.{WorldClient}
use Rattle.world.specs.StandsFor.{IsReached, connections_at, connections_in}
use Rattle.world.specs.World.{WorldState}
use Rattle.world.proofs.ClientsStand.{client_at}

pub promise_shown : (nodes : ℕ) (config : Config) (cs : List Client) (w : WorldState) (r : IsReached nodes config cs w) (i : ℕ) (client : WorldClient)
    → slice_get w.clients i ≡ Some client → Promise (connections_at i r.world) (published_of i (published_on_way r.trail)) r.exact.agreed client.piped.core.state
promise_shown nodes config cs w r i client at =
    let one = client_at w.clients r.world.clients i client r.stands.clients at in
    subst (λ (o : Option ClientPipes). Promise (connections_in o) (published_of i (published_on_way r.trail)) r.exact.agreed client.piped.core.state) (sym one.at)
    (r.exact.promises r.exact.agreed r.exact.is_agreed i one.c client.piped.core.state one.at (record { keeper = one.stands.keeper; accepted = one.stands.accepted }))

pub same_place : (i j : ℕ) → Some i ≡ Some j → i ≡ j
same_place i j e = cc
