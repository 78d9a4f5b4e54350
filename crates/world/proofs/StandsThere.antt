-- StandsThere.antt: a connection that was opened is found, with its client and what is in transit
-- on it.
use Rattle.std.proofs.Common.{◌≡◌, ◌<◌, ◌-◌, ℕ, zero, suc, Bool, if◌then◌else◌, List, Option, Some, None, length, slice_get, ap, ◌∙◌, arith}
use Rattle.std.specs.List.{position}
use Rattle.std.proofs.lemmas.Bool.{ne_eqb}
use Rattle.std.proofs.lemmas.List.{length-map}
use Rattle.std.proofs.lemmas.Option.{slice_get_within}
use Rattle.world_pipes.specs.declared.clients.connection_slot.ConnectionSlot.{ConnectionSlot}
use Rattle.world_pipes.specs.declared.clients.world_client.WorldClient.{WorldClient}
use Rattle.world.specs.Found.{Connected, core_at, core_named, core_of, slot_numbered, pair_at, pair_in, pair_of}
use Rattle.world_pipes.specs.clients.Clients.{is_named}
use Rattle.world_pipes.specs.clients.SlotsAreValid.{SlotsAreValid, connection_targets, targets_of_clients}
use Rattle.world.specs.World.{WorldState}
use Rattle.world_pipes.proofs.of_clients.LeadsKept.{led, led_there}
use Rattle.world_pipes.proofs.of_clients.Turned.{mapped_from}

-- ---- a connection

pub numbered_at : (number : ℕ) (connections : List ConnectionSlot) (o : Option ConnectionSlot) → 0 < number → slice_get connections (number - 1) ≡ o → slot_numbered number connections ≡ o
numbered_at zero connections o positive e = absurd (omega (arith, positive))
numbered_at (suc n) connections o positive e = ap (λ (b : Bool). if b then None else slice_get connections (suc n - 1)) (ne_eqb (suc n) 0 (λ z. cc)) ∙ e

abbrev pub connected : (w : WorldState) (number : ℕ) (place : ConnectionSlot) → SlotsAreValid (targets_of_clients w.clients) w.connections → slice_get w.connections (number - 1) ≡ Some place → 0 < number → Connected number w
connected w number place housed at positive =
    let there = led_there (targets_of_clients w.clients) w.connections number place housed at positive in
    let client = mapped_from (λ (c : WorldClient). connection_targets c.piped.pairs) w.clients place.client there.pairs there.client in
    let pair = led w.clients number place client.x there client.found in
    record {
      slot = place;
      numbered = numbered_at number w.connections (Some place) positive at;
      client = client.x;
      owned = client.found;
      pair = pair.pair;
      stands = pair.found;
    }

pub pair_found : (number : ℕ) (w : WorldState) (c : Connected number w) → pair_of number w ≡ Some c.pair
pair_found number w c = ap (λ (o : Option ConnectionSlot). pair_at o w.clients) c.numbered ∙ ap (λ (o : Option WorldClient). pair_in o c.slot.at) c.owned ∙ c.stands

-- its places are within the lists
pub client_within : (clients : List WorldClient) (connections : List ConnectionSlot) (number : ℕ) (place : ConnectionSlot) → SlotsAreValid (targets_of_clients clients) connections → slice_get connections (number - 1) ≡ Some place
    → 0 < number → place.client < length clients
client_within clients connections number place housed at positive =
    let there = led_there (targets_of_clients clients) connections number place housed at positive in
    let below = slice_get_within (targets_of_clients clients) place.client there.pairs there.client in
    let same = length-map clients (λ (c : WorldClient). connection_targets c.piped.pairs) in
    omega (arith, below, same)

pub pair_within : (clients : List WorldClient) (connections : List ConnectionSlot) (number : ℕ) (place : ConnectionSlot) (client : WorldClient) → SlotsAreValid (targets_of_clients clients) connections
    → slice_get connections (number - 1) ≡ Some place → 0 < number → slice_get clients place.client ≡ Some client → place.at < length client.piped.pairs
pair_within clients connections number place client housed at positive owned =
    let pair = led clients number place client (led_there (targets_of_clients clients) connections number place housed at positive) owned in
    slice_get_within client.piped.pairs place.at pair.pair pair.found

-- ---- a client

pub core_found : (name : List ℕ) (clients : List WorldClient) (at : ℕ) (client : WorldClient) → position (is_named name) clients ≡ Some at → slice_get clients at ≡ Some client
    → core_named name clients ≡ Some client.piped.core
core_found name clients at client first stands = ap (λ (o : Option ℕ). core_at o clients) first ∙ ap core_of stands

pub core_missing : (name : List ℕ) (clients : List WorldClient) → position (is_named name) clients ≡ None → core_named name clients ≡ None
core_missing name clients none = ap (λ (o : Option ℕ). core_at o clients) none
