-- HousedOpened.antt: after an opening each connection is at its known place.
use Rattle.std.proofs.Common.{◌≡◌, ℕ, suc, List, [], ◌∷◌, ◌++◌, Some, length, set, slice_get, sym, ap, ◌∙◌, subst}
use Rattle.std.proofs.lemmas.List.{length-map, map-append, map-set}
use Rattle.client.specs.Core.{Core}
use Rattle.headline.proofs.of_node_group.Placed.{get_mapped}
use Rattle.world_base.specs.declared.node_connections.port.Port.{Port}
use Rattle.world_pipes.specs.declared.pair.PipePair.{PipePair}
use Rattle.world_pipes.specs.Piped.{Piped, new_pair, piped_up}
use Rattle.world_pipes.specs.declared.clients.connection_slot.ConnectionSlot.{ConnectionSlot}
use Rattle.world_pipes.specs.declared.clients.world_client.WorldClient.{WorldClient}
use Rattle.world_pipes.specs.clients.SlotsAreValid.{SlotsAreValid, connection_targets, targets_of_clients}
use Rattle.world.proofs.HousedOn.{housed_more}

abbrev lead : PipePair → ℕ × Port
lead pair = (pair.node, pair.port)

-- the new one is after those that the client had
pub housed_opened : (clients : List WorldClient) (connections : List ConnectionSlot) (i : ℕ) (client : WorldClient) (piped : Piped) (node number : ℕ) (place : ConnectionSlot) (core : Core)
    → slice_get clients i ≡ Some client → piped ≡ piped_up core client.piped.pairs (new_pair node (record { 0 = number })) → number ≡ suc (length connections) → place.client ≡ i
    → place.at ≡ length client.piped.pairs → suc node ≡ place.node → SlotsAreValid (targets_of_clients clients) connections
    → SlotsAreValid (targets_of_clients (set clients i (record client { piped = piped }))) (connections ++ place ∷ [])
housed_opened clients connections i client piped node number place core at is counted client_is last numbered h =
    subst (λ (all : List (List (ℕ × Port))). SlotsAreValid all (connections ++ place ∷ [])) (sym where_now)
    (housed_more (targets_of_clients clients) connections i (connection_targets client.piped.pairs) node number place (get_mapped (λ (c : WorldClient). connection_targets c.piped.pairs) clients i client at) counted client_is
    (last ∙ sym (length-map client.piped.pairs lead)) numbered h)
  where
    new : PipePair
    new = record { node = node; port = record { 0 = number }; up = core.out; down = [] }

    where_now : targets_of_clients (set clients i (record client { piped = piped })) ≡ set (targets_of_clients clients) i (connection_targets client.piped.pairs ++ (node, record { 0 = number }) ∷ [])
    where_now =
        map-set (λ (c : WorldClient). connection_targets c.piped.pairs) clients i (record client { piped = piped })
        ∙ ap (set (targets_of_clients clients) i) (ap (λ (p : Piped). connection_targets p.pairs) is ∙ map-append lead client.piped.pairs (new ∷ []))
