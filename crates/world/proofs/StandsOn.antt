-- The newest connection of a client, while connections are asked for bytes: what its node queued
-- for it goes down, and nothing else happens to it.
use Rattle.std.proofs.Common.{◌≡◌, ◌⊎◌, inl, inr, ◌<◌, ◌-◌, ◌==◌, ◌&&◌, ℕ, zero, suc, Bool, true, false, List, ◌++◌, Option, Some, length, set, slice_get, refl, sym, ap, ◌∙◌, subst, arith}
use Rattle.std.proofs.lemmas.Bool.{eq-eqb, ne_eqb}
use Rattle.std.proofs.lemmas.List.{length-set}
use Rattle.std.proofs.lemmas.Option.{same_Some}
use Rattle.lists.proofs.Places.{get_set, get_set_other}
use Rattle.client.specs.Core.{Core}
use Rattle.headline.proofs.of_packet_world.Lists.{same_or_other}
use Rattle.world_base.specs.node_core.Core.{CountedCore}
use Rattle.world_base.specs.declared.node_connections.port.Port.{Port}
use Rattle.world_nodes.specs.RunningNodes.{numbered_node}
use Rattle.world_pipes.specs.declared.pair.PipePair.{PipePair}
use Rattle.world_pipes.specs.declared.clients.connection_slot.ConnectionSlot.{ConnectionSlot}
use Rattle.world_pipes.specs.declared.clients.world_client.WorldClient.{WorldClient}
use Rattle.world.specs.Found.{slot_numbered, port_at_node}
use Rattle.world_pipes.specs.clients.NodeOutput.{with_down}
use Rattle.world.specs.NodeOutput.{GatheredWhere, Gathers, GathersAmong, IsGathered, leads_open_to}
use Rattle.world_pipes.specs.clients.NodeOutput.{is_reported_open, bytes_put_out}
use Rattle.world_pipes.specs.clients.SlotsAreValid.{SlotsAreValid, targets_of_clients}
use Rattle.world.specs.World.{WorldState}
use Rattle.world_pipes.proofs.of_clients.LeadsKept.{IsLed, led, led_there}
use Rattle.world.proofs.PassesOn.{at_number, where_passes}
use Rattle.world.proofs.StandsThere.{numbered_at}

-- it is the newest of all: where it is at its client and its node, and what is in transit on it
pub record IsNewest (i at number node : ℕ) (core : Core) (up down : List ℕ) (is_open : Bool) (w : WorldState) : Type 0 where
  pub client : WorldClient
  pub found : slice_get w.clients i ≡ Some client
  pub core_is : client.piped.core ≡ core
  pub pair : PipePair
  pub stands : slice_get client.piped.pairs at ≡ Some pair
  pub many : length client.piped.pairs ≡ suc at
  pub up_is : pair.up ≡ up
  pub down_is : pair.down ≡ down
  pub place : slice_get w.connections (number - 1) ≡ Some (record { client = i; at = at; node = node; is_open = is_open })
  pub last : length w.connections ≡ number

abbrev newest_place : ℕ → ℕ → ℕ → Bool → ConnectionSlot
newest_place i at node is_open = record { client = i; at = at; node = node; is_open = is_open }

-- ---- it is asked itself

module _ (i at number node : ℕ) (core : Core) (up down : List ℕ) (is_open : Bool) (old new : WorldState) (s : IsNewest i at number node core up down is_open old) where
  pub gathered_itself : 0 < number → (a : IsGathered number old new) → IsNewest i at number node core up (down ++ bytes_put_out (port_at_node number) (numbered_node old.nodes.nodes node)) (is_reported_open (port_at_node number) (numbered_node old.nodes.nodes node)) new
  gathered_itself positive a =
      record {
        client = later;
        found = ap (λ (w : WorldState). slice_get w.clients i) a.is
            ∙ ap (λ (j : ℕ). slice_get (set old.clients j later) i) client_is
            ∙ get_set old.clients i a.connected.client later owned;
        core_is = ap (λ (c : WorldClient). c.piped.core) same_client ∙ s.core_is;
        pair = below;
        stands = ap (λ (j : ℕ). slice_get (set a.connected.client.piped.pairs j below) at) at_is ∙ get_set a.connected.client.piped.pairs at a.connected.pair below there;
        many = length-set a.connected.client.piped.pairs a.connected.slot.at below ∙ ap (λ (c : WorldClient). length c.piped.pairs) same_client ∙ s.many;
        up_is = ap (λ (w : PipePair). w.up) same_pair ∙ s.up_is;
        down_is = ap (λ (w : PipePair). w.down ++ bytes_put_out (port_at_node number) a.node) same_pair
            ∙ ap (λ (l : List ℕ). l ++ bytes_put_out (port_at_node number) a.node) s.down_is
            ∙ ap (λ (o : Option CountedCore). down ++ bytes_put_out (port_at_node number) o) node_is;
        place = ap (λ (w : WorldState). slice_get w.connections (number - 1)) a.is
            ∙ get_set old.connections (number - 1) a.connected.slot (record a.connected.slot { is_open = is_reported_open (port_at_node number) a.node }) found
            ∙ ap (λ (p : ConnectionSlot). Some (let q : ConnectionSlot = record p { is_open = is_reported_open (port_at_node number) a.node } in q)) place_is
            ∙ ap (λ (o : Option CountedCore). Some (newest_place i at node (is_reported_open (port_at_node number) o))) node_is;
        last = ap (λ (w : WorldState). length w.connections) a.is
            ∙ length-set old.connections (number - 1) (record a.connected.slot { is_open = is_reported_open (port_at_node number) a.node }) ∙ s.last;
      }
    where
      found : slice_get old.connections (number - 1) ≡ Some a.connected.slot
      found = at_number number old.connections a.connected.slot positive a.connected.numbered

      place_is : a.connected.slot ≡ newest_place i at node is_open
      place_is = same_Some a.connected.slot (newest_place i at node is_open) (sym found ∙ s.place)

      client_is : a.connected.slot.client ≡ i
      client_is = ap (λ (p : ConnectionSlot). p.client) place_is

      at_is : a.connected.slot.at ≡ at
      at_is = ap (λ (p : ConnectionSlot). p.at) place_is

      node_is : a.node ≡ numbered_node old.nodes.nodes node
      node_is = a.is_node ∙ ap (λ (p : ConnectionSlot). numbered_node old.nodes.nodes p.node) place_is

      owned : slice_get old.clients i ≡ Some a.connected.client
      owned = ap (slice_get old.clients) (sym client_is) ∙ a.connected.owned

      same_client : a.connected.client ≡ s.client
      same_client = same_Some a.connected.client s.client (sym owned ∙ s.found)

      there : slice_get a.connected.client.piped.pairs at ≡ Some a.connected.pair
      there = ap (slice_get a.connected.client.piped.pairs) (sym at_is) ∙ a.connected.stands

      same_pair : a.connected.pair ≡ s.pair
      same_pair = same_Some a.connected.pair s.pair (sym there ∙ ap (λ (c : WorldClient). slice_get c.piped.pairs at) same_client ∙ s.stands)

      below : PipePair
      below = record a.connected.pair { down = a.connected.pair.down ++ bytes_put_out (port_at_node number) a.node }

      later : WorldClient
      later = record a.connected.client { piped = with_down a.connected.slot.at a.connected.pair (a.connected.pair.down ++ bytes_put_out (port_at_node number) a.node) a.connected.client.piped }

  -- ---- another is asked

  pub gathered_another : (other : ℕ) → 0 < number → 0 < other → (other ≡ number → ⊥) → SlotsAreValid (targets_of_clients old.clients) old.connections → IsGathered other old new →
      IsNewest i at number node core up down is_open new
  gathered_another other positive some apart housed a = by (same_or_other i a.connected.slot.client)
    where
      found : slice_get old.connections (other - 1) ≡ Some a.connected.slot
      found = at_number other old.connections a.connected.slot some a.connected.numbered

      elsewhere : number - 1 ≡ other - 1 → ⊥
      elsewhere same = apart (omega (arith, same, positive, some))

      place : slice_get new.connections (number - 1) ≡ Some (newest_place i at node is_open)
      place = ap (λ (w : WorldState). slice_get w.connections (number - 1)) a.is
          ∙ get_set_other old.connections (other - 1) (number - 1) (record a.connected.slot { is_open = is_reported_open (port_at_node other) a.node }) elsewhere ∙ s.place

      last : length new.connections ≡ number
      last = ap (λ (w : WorldState). length w.connections) a.is
          ∙ length-set old.connections (other - 1) (record a.connected.slot { is_open = is_reported_open (port_at_node other) a.node }) ∙ s.last

      bytes : List ℕ
      bytes = a.connected.pair.down ++ bytes_put_out (port_at_node other) a.node

      later : WorldClient
      later = record a.connected.client { piped = with_down a.connected.slot.at a.connected.pair bytes a.connected.client.piped }

      by : (i ≡ a.connected.slot.client) ⊎ (i ≡ a.connected.slot.client → ⊥) → IsNewest i at number node core up down is_open new
      by (inr different) =
          record {
            client = s.client;
            found = ap (λ (w : WorldState). slice_get w.clients i) a.is ∙ get_set_other old.clients a.connected.slot.client i later different ∙ s.found;
            core_is = s.core_is;
            pair = s.pair;
            stands = s.stands;
            many = s.many;
            up_is = s.up_is;
            down_is = s.down_is;
            place = place;
            last = last;
          }
      by (inl same) =
          record {
            client = later;
            found = ap (λ (w : WorldState). slice_get w.clients i) a.is
                ∙ ap (λ (j : ℕ). slice_get (set old.clients j later) i) (sym same) ∙ get_set old.clients i a.connected.client later owned;
            core_is = ap (λ (c : WorldClient). c.piped.core) same_client ∙ s.core_is;
            pair = s.pair;
            stands = get_set_other a.connected.client.piped.pairs a.connected.slot.at at (record a.connected.pair { down = bytes }) not_here
                ∙ ap (λ (c : WorldClient). slice_get c.piped.pairs at) same_client ∙ s.stands;
            many = length-set a.connected.client.piped.pairs a.connected.slot.at (record a.connected.pair { down = bytes }) ∙ ap (λ (c : WorldClient). length c.piped.pairs) same_client ∙ s.many;
            up_is = s.up_is;
            down_is = s.down_is;
            place = place;
            last = last;
          }
        where
          owned : slice_get old.clients i ≡ Some a.connected.client
          owned = ap (slice_get old.clients) same ∙ a.connected.owned

          same_client : a.connected.client ≡ s.client
          same_client = same_Some a.connected.client s.client (sym owned ∙ s.found)

          -- else both would lead to one port
          mine : IsLed s.client.piped.pairs number (newest_place i at node is_open)
          mine = led old.clients number (newest_place i at node is_open) s.client
              (led_there (targets_of_clients old.clients) old.connections number (newest_place i at node is_open) housed s.place positive) s.found

          its : IsLed a.connected.client.piped.pairs other a.connected.slot
          its = led old.clients other a.connected.slot a.connected.client (led_there (targets_of_clients old.clients) old.connections other a.connected.slot housed found some) a.connected.owned

          not_here : at ≡ a.connected.slot.at → ⊥
          not_here here =
              let one : mine.pair ≡ its.pair = same_Some mine.pair its.pair
              (sym mine.found ∙ ap (λ (c : WorldClient). slice_get c.piped.pairs at) (sym same_client) ∙ ap (slice_get a.connected.client.piped.pairs) here ∙ its.found) in
              apart (ap (λ (p : Port). p.0) (sym its.port ∙ ap (λ (w : PipePair). w.port) (sym one) ∙ mine.port))

-- ---- the connections of a node

module _ (i at number node : ℕ) (core : Core) (up : List ℕ) (positive : 0 < number) where
  -- those before it
  pub older_asked : (count to : ℕ) (down : List ℕ) (is_open : Bool) (old new : WorldState) → GathersAmong true count to old new → count < number →
      SlotsAreValid (targets_of_clients old.clients) old.connections → IsNewest i at number node core up down is_open old → IsNewest i at number node core up down is_open new
  older_asked zero to down is_open old new is low housed s = subst (IsNewest i at number node core up down is_open) (sym is) s
  older_asked (suc before) to down is_open old new g low housed s =
      older_asked before to down is_open g.0 new g.2 (omega (arith, low))
      (where_passes (leads_open_to to (slot_numbered (suc before) old.connections)) (suc before) old g.0 g.1 housed (omega arith)).housed
      (one (leads_open_to to (slot_numbered (suc before) old.connections)) g.1)
    where
      one : (b : Bool) → GatheredWhere true b (suc before) old g.0 → IsNewest i at number node core up down is_open g.0
      one true a = gathered_another i at number node core up down is_open old g.0 s (suc before) positive (omega arith) (λ same. omega (arith, same, low)) housed a
      one false is = subst (IsNewest i at number node core up down is_open) (sym is) s

  asks : (to : ℕ) (is_open b : Bool) (down : List ℕ) (old : WorldState) → IsNewest i at number node core up down is_open old → ((node == to) && is_open) ≡ b →
      leads_open_to to (slot_numbered number old.connections) ≡ b
  asks to is_open b down old s e = ap (leads_open_to to) (numbered_at number old.connections (Some (newest_place i at node is_open)) positive s.place) ∙ e

  -- all of another node
  pub elsewhere_gathered : (to : ℕ) (down : List ℕ) (is_open : Bool) (old new : WorldState) → (node ≡ to → ⊥) → Gathers true to old new →
      SlotsAreValid (targets_of_clients old.clients) old.connections → IsNewest i at number node core up down is_open old → IsNewest i at number node core up down is_open new
  elsewhere_gathered zero down is_open old new apart is housed s = subst (IsNewest i at number node core up down is_open) (sym is) s
  elsewhere_gathered (suc to) down is_open old new apart g housed s = by number refl (subst (λ (k : ℕ). GathersAmong true k (suc to) old new) s.last g)
    where
      none : (b : Bool) → (false && b) ≡ false
      none b = refl

      by : (k : ℕ) → k ≡ number → GathersAmong true k (suc to) old new → IsNewest i at number node core up down is_open new
      by zero e h = absurd (omega (arith, e, positive))
      by (suc k) e h =
          let shut : leads_open_to (suc to) (slot_numbered (suc k) old.connections) ≡ false =
          ap (λ (j : ℕ). leads_open_to (suc to) (slot_numbered j old.connections)) e
          ∙ asks (suc to) is_open false down old s (ap (λ (b : Bool). b && is_open) (ne_eqb node (suc to) apart)) in
          let still : h.0 ≡ old = subst (λ (b : Bool). GatheredWhere true b (suc k) old h.0) shut h.1 in
          older_asked k (suc to) down is_open h.0 new h.2 (omega (arith, e)) (subst (λ (w : WorldState). SlotsAreValid (targets_of_clients w.clients) w.connections) (sym still) housed)
          (subst (IsNewest i at number node core up down is_open) (sym still) s)

  -- all of its own
  pub own_gathered : (down : List ℕ) (old new : WorldState) → 0 < node → Gathers true node old new → SlotsAreValid (targets_of_clients old.clients) old.connections →
      IsNewest i at number node core up down true old →
      IsNewest i at number node core up (down ++ bytes_put_out (port_at_node number) (numbered_node old.nodes.nodes node)) (is_reported_open (port_at_node number) (numbered_node old.nodes.nodes node)) new
  own_gathered down old new some g housed s = by number refl (among node some g)
    where
      among : (to : ℕ) → 0 < to → Gathers true to old new → GathersAmong true number to old new
      among zero low h = absurd (omega (arith, low))
      among (suc to) low h = subst (λ (k : ℕ). GathersAmong true k (suc to) old new) s.last h

      by : (k : ℕ) → k ≡ number → GathersAmong true k node old new →
          IsNewest i at number node core up (down ++ bytes_put_out (port_at_node number) (numbered_node old.nodes.nodes node)) (is_reported_open (port_at_node number) (numbered_node old.nodes.nodes node)) new
      by zero e h = absurd (omega (arith, e, positive))
      by (suc k) e h =
          let up_there : leads_open_to node (slot_numbered (suc k) old.connections) ≡ true =
          ap (λ (j : ℕ). leads_open_to node (slot_numbered j old.connections)) e
          ∙ asks node true true down old s (ap (λ (b : Bool). b && true) (eq-eqb node node refl)) in
          let a : IsGathered number old h.0 = subst (λ (j : ℕ). IsGathered j old h.0) e (subst (λ (b : Bool). GatheredWhere true b (suc k) old h.0) up_there h.1) in
          older_asked k node (down ++ bytes_put_out (port_at_node number) (numbered_node old.nodes.nodes node)) (is_reported_open (port_at_node number) (numbered_node old.nodes.nodes node)) h.0 new h.2 (omega (arith, e))
          (where_passes (leads_open_to node (slot_numbered (suc k) old.connections)) (suc k) old h.0 h.1 housed (omega arith)).housed
          (gathered_itself i at number node core up down true old h.0 s positive a)
