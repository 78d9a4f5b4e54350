-- ClientsStand.antt: the clients of a world, each at its place.
use Rattle.std.proofs.Common.{◌≡◌, ℕ, zero, suc, List, [], ◌∷◌, Some, set, slice_get, refl, subst}
use Rattle.std.proofs.lemmas.Option.{same_Some, none-some}
use Rattle.headline.specs.byte_world.World.{ClientPipes}
use Rattle.world_pipes.specs.Piped.{Piped}
use Rattle.world_pipes.specs.StandsFor.{ClientStandsFor}
use Rattle.world_pipes.specs.declared.clients.world_client.WorldClient.{WorldClient}
use Rattle.world_pipes.specs.clients.Clients.{ClientsStand}

-- the model's client to which the one at a place corresponds
pub record StandsAt (cs : List ClientPipes) (i : ℕ) (piped : Piped) : Type 0 where
  pub c : ClientPipes
  pub at : slice_get cs i ≡ Some c
  pub stands : ClientStandsFor piped c

pub client_at : (clients : List WorldClient) (cs : List ClientPipes) (i : ℕ) (client : WorldClient) → ClientsStand clients cs → slice_get clients i ≡ Some client
    → StandsAt cs i client.piped
client_at [] cs i client all e = absurd (none-some client e)
client_at (d ∷ clients) [] i client all e = absurd all
client_at (d ∷ clients) (c ∷ cs) zero client all e =
    record { c = c; at = refl; stands = subst (λ (z : WorldClient). ClientStandsFor z.piped c) (same_Some d client e) all.0 }
client_at (d ∷ clients) (c ∷ cs) (suc i) client all e = let r = client_at clients cs i client all.1 e in record { c = r.c; at = r.at; stands = r.stands }

pub stand_set : (clients : List WorldClient) (cs : List ClientPipes) (i : ℕ) (new : WorldClient) (c : ClientPipes) → ClientsStand clients cs → ClientStandsFor new.piped c
    → ClientsStand (set clients i new) (set cs i c)
stand_set [] [] i new c all one = tt
stand_set [] (d ∷ cs) i new c all one = absurd all
stand_set (d ∷ clients) [] i new c all one = absurd all
stand_set (d ∷ clients) (e ∷ cs) zero new c all one = (one, all.1)
stand_set (d ∷ clients) (e ∷ cs) (suc i) new c all one = (all.0, stand_set clients cs i new c all.1 one)
