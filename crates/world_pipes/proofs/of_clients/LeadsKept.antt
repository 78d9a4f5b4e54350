-- LeadsKept.antt: the nodes to which connections lead stay the same.
use Rattle.std.proofs.Common.{◌≡◌, ◌<◌, ◌-◌, ℕ, suc, List, Some, set, slice_get, sym, ap, ◌∙◌, subst, arith}
use Rattle.std.proofs.lemmas.List.{map-set}
use Rattle.std.proofs.lemmas.Option.{same_Some}
use Rattle.world_base.specs.declared.node_connections.port.Port.{Port}
use Rattle.headline.proofs.of_node_group.Placed.{get_mapped}
use Rattle.world_pipes.specs.declared.pair.PipePair.{PipePair}
use Rattle.world_pipes.specs.declared.clients.connection_slot.ConnectionSlot.{ConnectionSlot}
use Rattle.world_pipes.specs.declared.clients.world_client.WorldClient.{WorldClient}
use Rattle.world_pipes.specs.clients.SlotsAreValid.{SlotsAreValid, LeadsThere, connection_targets, targets_of_clients}
use Rattle.world_pipes.proofs.of_clients.Turned.{mapped_from, set_itself}

abbrev leads_in : WorldClient → List (ℕ × Port)
leads_in client = connection_targets client.piped.pairs

abbrev lead : PipePair → ℕ × Port
lead pair = (pair.node, pair.port)

-- a client changes, and its connections lead to the same nodes
pub housed_set : (clients : List WorldClient) (i : ℕ) (old new : WorldClient) → slice_get clients i ≡ Some old → connection_targets new.piped.pairs ≡ connection_targets old.piped.pairs
    → targets_of_clients (set clients i new) ≡ targets_of_clients clients
housed_set clients i old new at same =
    map-set leads_in clients i new ∙ ap (set (targets_of_clients clients) i) same
    ∙ set_itself (targets_of_clients clients) i (connection_targets old.piped.pairs) (get_mapped leads_in clients i old at)

pub housed_client : (clients : List WorldClient) (connections : List ConnectionSlot) (i : ℕ) (old new : WorldClient) → slice_get clients i ≡ Some old
    → connection_targets new.piped.pairs ≡ connection_targets old.piped.pairs → SlotsAreValid (targets_of_clients clients) connections → SlotsAreValid (targets_of_clients (set clients i new)) connections
housed_client clients connections i old new at same h =
    subst (λ (all : List (List (ℕ × Port))). SlotsAreValid all connections) (sym (housed_set clients i old new at same)) h

-- a connection changes, and leads to the same node
pub leads_set : (pairs : List PipePair) (i : ℕ) (old new : PipePair) → slice_get pairs i ≡ Some old → lead new ≡ lead old → connection_targets (set pairs i new) ≡ connection_targets pairs
leads_set pairs i old new at same =
    map-set lead pairs i new ∙ ap (set (connection_targets pairs) i) same ∙ set_itself (connection_targets pairs) i (lead old) (get_mapped lead pairs i old at)

-- the connection that is at a place
pub record IsLed (pairs : List PipePair) (number : ℕ) (place : ConnectionSlot) : Type 0 where
  pub pair : PipePair
  pub found : slice_get pairs place.at ≡ Some pair
  pub node : suc pair.node ≡ place.node
  pub port : pair.port ≡ record { 0 = number }

pub led : (clients : List WorldClient) (number : ℕ) (place : ConnectionSlot) (client : WorldClient) → LeadsThere (targets_of_clients clients) number place
    → slice_get clients place.client ≡ Some client → IsLed client.piped.pairs number place
led clients number place client there at =
    let same : connection_targets client.piped.pairs ≡ there.pairs =
    same_Some (connection_targets client.piped.pairs) there.pairs (sym (get_mapped leads_in clients place.client client at) ∙ there.client) in
    let r = mapped_from lead client.piped.pairs place.at (there.node, record { 0 = number }) (ap (λ (l : List (ℕ × Port)). slice_get l place.at) same ∙ there.pair) in
    record {
      pair = r.x;
      found = r.found;
      node = ap (λ (z : ℕ × Port). suc z.0) r.is ∙ there.numbered;
      port = ap (λ (z : ℕ × Port). z.1) r.is;
    }

-- the place of the connection of a number
pub led_there : (all : List (List (ℕ × Port))) (connections : List ConnectionSlot) (number : ℕ) (place : ConnectionSlot) → SlotsAreValid all connections
    → slice_get connections (number - 1) ≡ Some place → 0 < number → LeadsThere all number place
led_there all connections number place h at positive =
    subst (λ (k : ℕ). LeadsThere all k place) (let e : suc (number - 1) ≡ number = omega (arith, positive) in e) (h.known (number - 1) place at)
