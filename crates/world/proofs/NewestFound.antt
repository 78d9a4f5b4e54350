-- The newest connection of a world is found by its number, and what is in transit on it comes up,
-- or down.
use Rattle.std.proofs.Common.{◌≡◌, ◌⊎◌, inl, inr, ◌<◌, ◌≤◌, ◌-◌, ◌==◌, ℕ, suc, Bool, true, false, if◌then◌else◌, List, [], Option, Some, None, drop, length, slice_get, take, refl, sym, ap, ◌∙◌, subst, arith}
use Rattle.std.proofs.lemmas.Bool.{and_from, both_ways, eq-eqb}
use Rattle.std.proofs.lemmas.List.{length-set, take_all}
use Rattle.std.proofs.lemmas.Option.{none-some, same_Some}
use Rattle.client.specs.Core.{Core}
use Rattle.client_base.specs.State.{is_open}
use Rattle.lists.proofs.Places.{get_set}
use Rattle.world_base.specs.node_core.Core.{CountedCore}
use Rattle.world_base.specs.declared.node_core.item.Item.{Item}
use Rattle.world_base.specs.declared.node_core.item.Item.TheVariants.{Bytes}
use Rattle.headline.specs.node_moves.Moves.NodeCall.{takes}
use Rattle.world_nodes.specs.ExactSteps.{TakesExactly, after_node_call}
use Rattle.world_nodes.specs.RunningNodes.{running, unless_stopped}
use Rattle.world_nodes.specs.Nodes.{NodesState}
use Rattle.world_pipes.specs.declared.pair.PipePair.{PipePair}
use Rattle.world_pipes.specs.Piped.{is_holding}
use Rattle.world_pipes.specs.declared.events.event.Event.TheVariants as events
use Rattle.world_pipes.specs.declared.clients.connection_slot.ConnectionSlot.{ConnectionSlot}
use Rattle.world_pipes.specs.declared.clients.world_client.WorldClient.{WorldClient}
use Rattle.world.specs.Cannot.{IsClosed, down_of, is_held, is_held_by, up_of}
use Rattle.world_pipes.specs.clients.Transport.{IsNoPart}
use Rattle.world.specs.EventSteps.{DoesEvent}
use Rattle.world.specs.Found.{Connected, slot_numbered, port_at_node, pair_at, pair_in, pair_of, with_piped}
use Rattle.world_pipes.specs.clients.Transport.{with_less}
use Rattle.world.specs.NodeOutput.{Gathers, TakesItem}
use Rattle.world_pipes.specs.clients.SlotsAreValid.{SlotsAreValid, targets_of_clients}
use Rattle.world.specs.World.{WorldState}
use Rattle.world.proofs.DeliversOn.{runs_there}
use Rattle.world.proofs.GroupGoes.{with_nodes}
use Rattle.world_pipes.proofs.of_clients.LeadsKept.{housed_client, leads_set}
use Rattle.world.proofs.NamesKept.{names_of, names_set}
use Rattle.world.proofs.StandsOn.{IsNewest}
use Rattle.world.proofs.StandsThere.{numbered_at}

-- ---- a node takes just an item

pub takes_at : (place : ℕ) (item : Item) (old new : NodesState) (node : CountedCore) → slice_get old.nodes place ≡ Some node → TakesExactly (suc place) item old new →
    new ≡ after_node_call place node (takes item) old
takes_at place item old new node stands t =
    let same : t.core ≡ node = same_Some t.core node (sym (runs_there (slice_get old.nodes place) t.core t.runs).0 ∙ stands) in
    t.is
    ∙ ap (λ (k : ℕ). after_node_call k t.core (takes item) old) (let e : suc place - 1 ≡ place = omega arith in e)
    ∙ ap (λ (c : CountedCore). after_node_call place c (takes item) old) same

pub running_at : (place : ℕ) (nodes : List CountedCore) (node : CountedCore) → slice_get nodes place ≡ Some node → node.core.replica.state.stopped ≡ false →
    running nodes (suc place) ≡ Some node
running_at place nodes node stands runs = ap unless_stopped stands ∙ ap (λ (b : Bool). if b then None else Some node) runs

-- ---- its place

abbrev pub its_place : ℕ → ℕ → ℕ → Bool → ConnectionSlot
its_place i at node is_open = record { client = i; at = at; node = node; is_open = is_open }

module _ (i at number node : ℕ) (core : Core) (up down : List ℕ) (b : Bool) (w : WorldState) (s : IsNewest i at number node core up down b w) (positive : 0 < number) where
  pub place_found : slot_numbered number w.connections ≡ Some (its_place i at node b)
  place_found = numbered_at number w.connections (Some (its_place i at node b)) positive s.place

  pub newest_pair : pair_of number w ≡ Some s.pair
  newest_pair =
      ap (λ (o : Option ConnectionSlot). pair_at o w.clients) place_found
      ∙ ap (λ (o : Option WorldClient). pair_in o at) s.found
      ∙ s.stands

  pub place_is : (c : Connected number w) → c.slot ≡ its_place i at node b
  place_is c = same_Some c.slot (its_place i at node b) (sym c.numbered ∙ place_found)

  pub client_is : (c : Connected number w) → c.client ≡ s.client
  client_is c = same_Some c.client s.client (sym c.owned ∙ ap (λ (p : ConnectionSlot). slice_get w.clients p.client) (place_is c) ∙ s.found)

  pub pair_is : (c : Connected number w) → c.pair ≡ s.pair
  pair_is c =
      same_Some c.pair s.pair
      (sym c.stands
      ∙ ap (λ (p : ConnectionSlot). slice_get c.client.piped.pairs p.at) (place_is c)
      ∙ ap (λ (d : WorldClient). slice_get d.piped.pairs at) (client_is c)
      ∙ s.stands)

  -- its client holds it while it is open there
  pub is_held_on : is_open core.state.stage ≡ true → is_held (slot_numbered number w.connections) w.clients ≡ true
  is_held_on holding =
      ap (λ (o : Option ConnectionSlot). is_held o w.clients) place_found
      ∙ ap (λ (o : Option WorldClient). is_held_by o at) s.found
      ∙ and_from (is_holding s.client.piped) (suc at == length s.client.piped.pairs)
      (ap (λ (k : Core). is_open k.state.stage) s.core_is ∙ holding)
      (eq-eqb (suc at) (length s.client.piped.pairs) (sym s.many))

  -- so some bytes of those in transit down can come
  pub can_come_down : (count : ℕ) → is_open core.state.stage ≡ true → 0 < count → count ≤ length down →
      (is_held (slot_numbered number w.connections) w.clients ≡ false) ⊎ IsNoPart count (down_of (pair_of number w)) → ⊥
  can_come_down count holding some part (inl not_held) = both_ways (is_held (slot_numbered number w.connections) w.clients) not_held (is_held_on holding)
  can_come_down count holding some part (inr none) = by (subst (λ (o : Option PipePair). IsNoPart count (down_of o)) newest_pair none)
    where
      by : (count ≡ 0) ⊎ (length s.pair.down < count) → ⊥
      by (inl e) = omega (arith, e, some)
      by (inr low) = let same = ap (λ (l : List ℕ). length l) s.down_is in omega (arith, same, low, part)

-- ---- all that is in transit up comes to its node

module _ (i at number place : ℕ) (core : Core) (up : List ℕ) (w : WorldState) (s : IsNewest i at number (suc place) core up [] true w) (positive : 0 < number) (node : CountedCore)
    (stands : slice_get w.nodes.nodes place ≡ Some node) (count : ℕ) (many : length up ≡ count) where
  abbrev pub emptied : WorldState
  emptied = with_piped i s.client (with_less at count s.pair s.client.piped) w

  abbrev client : WorldClient
  client = record s.client { piped = with_less at count s.pair s.client.piped }

  abbrev pair : PipePair
  pair = record s.pair { up = drop count s.pair.up }

  pub can_come_up : node.core.replica.state.stopped ≡ false → 0 < count → IsClosed (slot_numbered number w.connections) w.nodes.nodes ⊎ IsNoPart count (up_of (pair_of number w)) → ⊥
  can_come_up runs some (inl closed) = by (subst (λ (o : Option ConnectionSlot). IsClosed o w.nodes.nodes) (place_found i at number (suc place) core up [] true w s positive) closed)
    where
      by : (true ≡ false) ⊎ (running w.nodes.nodes (suc place) ≡ None) → ⊥
      by (inl e) = both_ways true e refl
      by (inr e) = none-some node (sym e ∙ running_at place w.nodes.nodes node stands runs)
  can_come_up runs some (inr none) = by (subst (λ (o : Option PipePair). IsNoPart count (up_of o)) (newest_pair i at number (suc place) core up [] true w s positive) none)
    where
      by : (count ≡ 0) ⊎ (length s.pair.up < count) → ⊥
      by (inl e) = omega (arith, e, some)
      by (inr low) = let same = ap (λ (l : List ℕ). length l) s.up_is in omega (arith, same, low, many)

  pub emptied_newest : (n : NodesState) → IsNewest i at number (suc place) core (drop count s.pair.up) [] true (with_nodes n emptied)
  emptied_newest n =
      record {
        client = client;
        found = get_set w.clients i s.client client s.found;
        core_is = s.core_is;
        pair = pair;
        stands = get_set s.client.piped.pairs at s.pair pair s.stands;
        many = length-set s.client.piped.pairs at pair ∙ s.many;
        up_is = refl;
        down_is = s.down_is;
        place = s.place;
        last = s.last;
      }

  pub emptied_housed : SlotsAreValid (targets_of_clients w.clients) w.connections → SlotsAreValid (targets_of_clients emptied.clients) emptied.connections
  emptied_housed housed = housed_client w.clients w.connections i s.client client s.found (leads_set s.client.piped.pairs at s.pair pair s.stands refl) housed

  pub emptied_names : names_of emptied.clients ≡ names_of w.clients
  emptied_names = names_set w.clients i s.client client s.found refl

  pub come_up : (after : WorldState) → DoesEvent true (events.CarryUp number count) w after →
      Gathers true (suc place) (with_nodes (after_node_call place node (takes (Bytes (port_at_node number) up 0)) w.nodes) emptied) after
  come_up after (c, t) =
      subst (λ (n : NodesState). Gathers true (suc place) (with_nodes n emptied) after)
      (takes_at place (Bytes (port_at_node number) up 0) w.nodes piece.0 node stands piece.1) piece.2
    where
      at_place : TakesItem true (suc place) (Bytes (port_at_node number) (take count c.pair.up) 0) (with_piped i c.client (with_less at count c.pair c.client.piped) w) after
      at_place =
          subst (λ (p : ConnectionSlot). TakesItem true p.node (Bytes (port_at_node number) (take count c.pair.up) 0) (with_piped p.client c.client (with_less p.at count c.pair c.client.piped) w) after)
          (place_is i at number (suc place) core up [] true w s positive c) t

      at_client : TakesItem true (suc place) (Bytes (port_at_node number) (take count c.pair.up) 0) (with_piped i s.client (with_less at count c.pair s.client.piped) w) after
      at_client =
          subst (λ (d : WorldClient). TakesItem true (suc place) (Bytes (port_at_node number) (take count c.pair.up) 0) (with_piped i d (with_less at count c.pair d.piped) w) after)
          (client_is i at number (suc place) core up [] true w s positive c) at_place

      at_pair : TakesItem true (suc place) (Bytes (port_at_node number) (take count s.pair.up) 0) emptied after
      at_pair =
          subst (λ (z : PipePair). TakesItem true (suc place) (Bytes (port_at_node number) (take count z.up) 0) (with_piped i s.client (with_less at count z s.client.piped) w) after)
          (pair_is i at number (suc place) core up [] true w s positive c) at_client

      whole : take count s.pair.up ≡ up
      whole = ap (take count) s.up_is ∙ take_all count up (let e : length up ≤ count = omega (arith, many) in e)

      piece : TakesItem true (suc place) (Bytes (port_at_node number) up 0) emptied after
      piece = subst (λ (l : List ℕ). TakesItem true (suc place) (Bytes (port_at_node number) l 0) emptied after) whole at_pair
