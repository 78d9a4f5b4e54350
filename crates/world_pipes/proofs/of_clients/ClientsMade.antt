-- ClientsMade.antt: clients that were never connected, one more at a time.
use Rattle.std.proofs.Common.{◌≡◌, ◌<◌, ◌+◌, ℕ, List, [], ◌∷◌, ◌++◌, length, map, take, sym, ap, ◌∙◌, subst}
use Rattle.std.specs.Prelude.{get_or}
use Rattle.std.proofs.lemmas.List.{map-append, take_more}
use Rattle.broker_spec.specs.Place.{Client}
use Rattle.headline.specs.byte_world.World.{ClientPipes, new_client}
use Rattle.world_pipes.specs.StandsFor.{ClientStandsFor}
use Rattle.world_pipes.specs.declared.clients.world_client.WorldClient.{WorldClient}
use Rattle.world_pipes.specs.clients.Clients.{new_world_client, ClientsStand, identifiers}

one_more : (made : List WorldClient) (cs : List ClientPipes) (one : WorldClient) (c : ClientPipes) → ClientsStand made cs → ClientStandsFor one.piped c
    → ClientsStand (made ++ one ∷ []) (cs ++ c ∷ [])
one_more [] [] one c all stands = (stands, tt)
one_more [] (d ∷ cs) one c all stands = absurd all
one_more (x ∷ made) [] one c all stands = absurd all
one_more (x ∷ made) (d ∷ cs) one c all stands = (all.0, one_more made cs one c all.1 stands)

-- clients that were never connected, by these identifiers
abbrev pub AreMade : List WorldClient → List Client → Type 0
AreMade made ids = ClientsStand made (map new_client ids) × (identifiers made ≡ ids) × (made ≡ map new_world_client ids)

pub made_more : (made later : List WorldClient) (ids : List Client) (i : ℕ) (one : WorldClient) (id : Client) → i < length ids → id ≡ get_or ids i id
    → ClientStandsFor one.piped (new_client id) → one.name ≡ id → one ≡ new_world_client id → later ≡ made ++ one ∷ [] → AreMade made (take i ids) → AreMade later (take (i + 1) ids)
made_more made later ids i one id below is stands named new pushed are =
    subst (λ (l : List WorldClient). AreMade l (take (i + 1) ids)) (sym pushed)
    (subst (λ (l : List Client). AreMade (made ++ one ∷ []) l) (sym (take_more ids i id below ∙ ap (λ (c : Client). take i ids ++ c ∷ []) (sym is))) (
      subst (ClientsStand (made ++ one ∷ [])) (sym (map-append new_client (take i ids) (id ∷ [])))
          (one_more made (map new_client (take i ids)) one (new_client id) are.0 stands),
      map-append (λ (c : WorldClient). c.name) made (one ∷ []) ∙ ap (λ (l : List Client). l ++ one.name ∷ []) are.1 ∙ ap (λ (c : Client). take i ids ++ c ∷ []) named,
      ap (λ (l : List WorldClient). l ++ one ∷ []) are.2 ∙ ap (λ (o : WorldClient). map new_world_client (take i ids) ++ o ∷ []) new ∙ sym (map-append new_world_client (take i ids) (id ∷ [])),
    ))
