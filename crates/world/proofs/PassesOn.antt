-- Connections are asked exactly: what stays of a world when nodes hand bytes over.
use Rattle.std.proofs.Common.{◌≡◌, inl, inr, ◌<◌, ◌-◌, ℕ, zero, suc, Bool, true, false, if◌then◌else◌, List, [], ◌++◌, Option, Some, None, length, map, set, slice_get, refl, sym, ap, ◌∙◌, subst, arith}
use Rattle.std.proofs.lemmas.Bool.{ne_eqb}
use Rattle.std.proofs.lemmas.List.{append-nil, length-set, map-set}
use Rattle.std.proofs.lemmas.Option.{same_Some}
use Rattle.client.specs.Core.{Core}
use Rattle.world_nodes.specs.recoveries.Deliveries.{Come}
use Rattle.world_nodes.specs.recoveries.Deliveries.Come.{all_came as none_comes, hands, to_node as comes_to_node, to_master as comes_to_master}
use Rattle.headline.specs.node_moves.Moves.NodeCall.{hands_out}
use Rattle.headline.proofs.of_node_group.Placed.{get_mapped}
use Rattle.world_base.specs.node_core.Core.{CountedCore}
use Rattle.world_base.specs.node_connections.PendingOutput.{pending_bytes}
use Rattle.world_base.specs.node_core.PortOutput.{listed_at}
use Rattle.world_base.specs.declared.node_connections.port.Port.{Port}
use Rattle.world_nodes.specs.RunningNodes.{numbered_node}
use Rattle.world_nodes.specs.Nodes.{NodesState}
use Rattle.world_nodes.proofs.Exactly.{at_place, gives_acts}
use Rattle.world_pipes.specs.declared.pair.PipePair.{PipePair}
use Rattle.world_pipes.specs.Piped.{Piped}
use Rattle.world_pipes.specs.declared.clients.connection_slot.ConnectionSlot.{ConnectionSlot}
use Rattle.world_pipes.specs.declared.clients.world_client.WorldClient.{WorldClient}
use Rattle.world.specs.Found.{slot_numbered, port_at_node}
use Rattle.world_pipes.specs.clients.NodeOutput.{with_down}
use Rattle.world.specs.NodeOutput.{GatheredWhere, Gathers, GathersAmong, IsGathered, leads_open_to}
use Rattle.world_pipes.specs.clients.NodeOutput.{HandsOverBytes, is_reported_open, bytes_put_out}
use Rattle.world_pipes.specs.clients.NodesGoOn.{NodesGo}
use Rattle.world_pipes.specs.clients.SlotsAreValid.{SlotsAreValid, targets_of_clients}
use Rattle.world_pipes.specs.clients.NodeOutput.{MayHandDown, MayPutDown}
use Rattle.world.specs.StandsFor.{FollowsModel}
use Rattle.world.specs.World.{WorldState}
use Rattle.world.proofs.GoesDown.{put_down, puts_down}
use Rattle.world_pipes.proofs.of_clients.NodesGoOn.{acts_go}
use Rattle.world.proofs.HousedOn.{housed_mark}
use Rattle.world.proofs.Joined.{world_goes_join, world_rests, world_stays}
use Rattle.world_pipes.proofs.of_clients.LeadsKept.{housed_client, leads_set, led_there}
use Rattle.world_pipes.proofs.of_clients.NodesGoOn.{nodes_go_join, nodes_stay, staying_goes}
use Rattle.world_pipes.proofs.of_clients.Turned.{set_itself}

-- ---- what stays while these messages come, and bytes are handed over

-- of a client its identifier and its core
abbrev pub seen_of : WorldClient → List ℕ × Core
seen_of client = (client.name, client.piped.core)

pub record Passes (ks : List ℕ) (old new : WorldState) : Type 0 where
  pub nodes : NodesGo old.nodes new.nodes
  pub world : FollowsModel old new
  pub housed : SlotsAreValid (targets_of_clients new.clients) new.connections
  pub clients : map seen_of new.clients ≡ map seen_of old.clients
  pub many : length new.connections ≡ length old.connections
  pub come : Come old.nodes ks new.nodes

pub come_join : {n m o : NodesState} {ks ls : List ℕ} → Come n ks m → Come m ls o → Come n (ks ++ ls) o
come_join none_comes two = two
come_join (comes_to_node k at node message came there going more) two = comes_to_node k at node message came there going (come_join more two)
come_join (comes_to_master k from ballot came more) two = comes_to_master k from ballot came (come_join more two)
come_join (hands at node port there more) two = hands at node port there (come_join more two)

pub passes_rest : (w : WorldState) → SlotsAreValid (targets_of_clients w.clients) w.connections → Passes [] w w
passes_rest w housed =
    record {
      nodes = staying_goes w.nodes w.nodes (λ g s. s);
      world = world_rests w w refl;
      housed = housed;
      clients = refl;
      many = refl;
      come = none_comes;
    }

pub passes_join : (ks ls : List ℕ) (a b c : WorldState) → Passes ks a b → Passes ls b c → Passes (ks ++ ls) a c
passes_join ks ls a b c one two =
    record {
      nodes = nodes_go_join a.nodes b.nodes c.nodes one.nodes two.nodes;
      world = world_goes_join a b c one.world two.world;
      housed = two.housed;
      clients = two.clients ∙ one.clients;
      many = two.many ∙ one.many;
      come = come_join one.come two.come;
    }

-- ---- what a node hands over

record Hands (o : Option CountedCore) (node : ℕ) (port : Port) (before : List ℕ) (old between : NodesState) : Type 0 where
  come : Come old [] between
  goes : NodesGo old between
  may : MayHandDown node port old before between (before ++ bytes_put_out port o)

handed : (o : Option CountedCore) (node : ℕ) (port : Port) (before : List ℕ) (old between : NodesState) → o ≡ numbered_node old.nodes node → HandsOverBytes o node port old between →
    Hands o node port before old between
handed None node port before old between is same =
    record {
      come = subst (λ (n : NodesState). Come old [] n) (sym same) none_comes;
      goes = staying_goes old between (nodes_stay old between same);
      may = inl (nodes_stay old between same, append-nil before);
    }
handed (Some core) node port before old between is given =
    let acts = gives_acts node port old between (record { core = core; there = sym is; is = given }) in
    record {
      come = subst (λ (n : NodesState). Come old [] n) (sym given) (hands (node - 1) core port (at_place old.nodes node core (sym is)) none_comes);
      goes = acts_go (Some (node - 1, hands_out port)) old between acts;
      may = inr (acts, λ other there. ap (λ (c : CountedCore). before ++ pending_bytes (listed_at port c.core)) (same_Some core other (is ∙ there)));
    }

-- ---- one connection

pub at_number : (number : ℕ) (connections : List ConnectionSlot) (place : ConnectionSlot) → 0 < number → slot_numbered number connections ≡ Some place → slice_get connections (number - 1) ≡ Some place
at_number zero connections place positive e = absurd (omega (arith, positive))
at_number (suc n) connections place positive e =
    sym (ap (λ (b : Bool). if b then None else slice_get connections (suc n - 1)) (ne_eqb (suc n) 0 (λ z. cc))) ∙ e

module _ (number : ℕ) (old new : WorldState) (a : IsGathered number old new) (housed : SlotsAreValid (targets_of_clients old.clients) old.connections) (positive : 0 < number) where
  abbrev place : ConnectionSlot
  place = a.connected.slot

  abbrev port : Port
  port = port_at_node number

  abbrev bytes : List ℕ
  bytes = a.connected.pair.down ++ bytes_put_out port a.node

  abbrev later : Piped
  later = with_down place.at a.connected.pair bytes a.connected.client.piped

  abbrev down : WorldState
  down = put_down place.client a.connected.client later a.between old

  found : slice_get old.connections (number - 1) ≡ Some place
  found = at_number number old.connections place positive a.connected.numbered

  given : Hands a.node place.node port a.connected.pair.down old.nodes a.between
  given = handed a.node place.node port a.connected.pair.down old.nodes a.between a.is_node a.gives

  may_put : MayPutDown place.at place.node port old.nodes a.connected.client.piped a.between later
  may_put pair there =
      let same : a.connected.pair ≡ pair = same_Some a.connected.pair pair (sym a.connected.stands ∙ there) in (
        bytes,
        subst (λ (w : PipePair). MayHandDown place.node port old.nodes w.down a.between bytes) same given.may,
        ap (λ (w : PipePair). with_down place.at w bytes a.connected.client.piped) same,
      )

  pub asked_passes : Passes [] old new
  asked_passes =
      subst (Passes [] old) (sym a.is)
      (record {
        nodes = given.goes;
        world = world_goes_join old down (record down { connections = set old.connections (number - 1) (record place { is_open = is_reported_open port a.node }) })
            (puts_down old number place a.connected.client a.between later (led_there (targets_of_clients old.clients) old.connections number place housed found positive) a.connected.owned may_put)
            (world_stays down (record down { connections = set old.connections (number - 1) (record place { is_open = is_reported_open port a.node }) }) refl refl);
        housed = housed_mark (targets_of_clients down.clients) old.connections (number - 1) place (is_reported_open port a.node) found
            (housed_client old.clients old.connections place.client a.connected.client (record a.connected.client { piped = later }) a.connected.owned
            (leads_set a.connected.client.piped.pairs place.at a.connected.pair (record a.connected.pair { down = bytes }) a.connected.stands refl) housed);
        clients = map-set seen_of old.clients place.client (record a.connected.client { piped = later })
            ∙ set_itself (map seen_of old.clients) place.client (seen_of a.connected.client) (get_mapped seen_of old.clients place.client a.connected.client a.connected.owned);
        many = length-set old.connections (number - 1) (record place { is_open = is_reported_open port a.node });
        come = given.come;
      })

-- ---- the connections of a node

pub where_passes : (b : Bool) (number : ℕ) (old new : WorldState) → GatheredWhere true b number old new → SlotsAreValid (targets_of_clients old.clients) old.connections → 0 < number → Passes [] old new
where_passes true number old new a housed positive = asked_passes number old new a housed positive
where_passes false number old new is housed positive = subst (Passes [] old) (sym is) (passes_rest old housed)

pub among_passes : (count node : ℕ) (old new : WorldState) → GathersAmong true count node old new → SlotsAreValid (targets_of_clients old.clients) old.connections → Passes [] old new
among_passes zero node old new is housed = subst (Passes [] old) (sym is) (passes_rest old housed)
among_passes (suc before) node old new g housed =
    let one = where_passes (leads_open_to node (slot_numbered (suc before) old.connections)) (suc before) old g.0 g.1 housed (omega arith) in
    passes_join [] [] old g.0 new one (among_passes before node g.0 new g.2 one.housed)

pub gathers_passes : (node : ℕ) (old new : WorldState) → Gathers true node old new → SlotsAreValid (targets_of_clients old.clients) old.connections → Passes [] old new
gathers_passes zero old new is housed = subst (Passes [] old) (sym is) (passes_rest old housed)
gathers_passes (suc at) old new g housed = among_passes (length old.connections) (suc at) old new g housed
