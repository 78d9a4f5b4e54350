-- OpensOn.antt: a client opens a connection, or has none.
use Rattle.std.proofs.Common.{◌≡◌, ◌⊎◌, inl, inr, ◌<◌, ◌-◌, ℕ, zero, suc, true, false, List, [], ◌∷◌, ◌++◌, Option, Some, None, Bool, length, slice_get, refl, sym, ap, ◌∙◌, subst, arith}
use Rattle.std.specs.Prelude.{IfSome}
use Rattle.std.specs.List.{position}
use Rattle.std.specs.Option.{is_some}
use Rattle.std.proofs.lemmas.Bool.{both_ways}
use Rattle.std.proofs.lemmas.Option.{none-some}
use Rattle.world_base.specs.declared.node_core.item.Item.TheVariants.{Opened}
use Rattle.world_base.specs.declared.node_connections.port.Port.{Port}
use Rattle.world_base.specs.node_core.Core.{CoreState, CountedCore}
use Rattle.world_base.specs.node_core.PortOutput.{listed_at}
use Rattle.headline.specs.node_moves.Moves.NodeCall.{takes}
use Rattle.headline.proofs.of_node_group.Placed.{get_mapped}
use Rattle.headline.specs.byte_world.World.{ByteWorld}
use Rattle.headline.specs.byte_world.Steps.ByteWorldStep.{is_taken_back}
use Rattle.world_nodes.specs.ExactSteps.{NodeDoesCall}
use Rattle.world_nodes.specs.RunningNodes.{numbered_node}
use Rattle.world_nodes.specs.Nodes.{NodesState}
use Rattle.world_nodes.specs.Steps.{NodesLoseNothing}
use Rattle.world_pipes.specs.ModelSteps.{FollowsAll}
use Rattle.world_pipes.specs.Piped.{Piped, is_holding}
use Rattle.world_pipes.specs.clients.NodesGoOn.{NodesGoOn}
use Rattle.world_pipes.specs.clients.SlotsAreValid.{SlotsAreValid, targets_of_clients}
use Rattle.world_pipes.specs.declared.events.event.Event.TheVariants as events
use Rattle.world_pipes.specs.declared.clients.world_client.WorldClient.{WorldClient}
use Rattle.world_pipes.specs.declared.clients.connection_slot.ConnectionSlot.{ConnectionSlot}
use Rattle.world.specs.Found.{Named, core_named, port_at_node, with_piped}
use Rattle.world_pipes.specs.clients.Clients.{is_named}
use Rattle.world.specs.EventSteps.{DoesEvent as HappenDoes}
use Rattle.world_pipes.specs.clients.Opening.{NoneOpens}
use Rattle.world.specs.Opening.{OpensNone, OpensOne, OpensUnless, has_no_name_left, next_connection_number, with_connection}
use Rattle.world.specs.Events.{HappensLosing}
use Rattle.world.specs.Cannot.{CannotOpen, is_serving}
use Rattle.world.specs.NodeOutput.{Gathers, TakesItem}
use Rattle.world.specs.Inside.Connections.{ConnectsAt, MayOpenNone, OpeningOrLost, OpensAt, OpensNoneAt}
use Rattle.world_pipes.specs.clients.Opening.{HasNew, HearsOfOne, IsKnown}
use Rattle.world.specs.Inside.Steps.{IsTrace, EventIsDone}
use Rattle.world.specs.StandsFor.{ModelStepsTo, FollowsModel}
use Rattle.world.specs.StandsFor.WorldSteps.{rests, goes_on}
use Rattle.world.specs.World.{WorldState}
use Rattle.world.proofs.CallsMet.{or_nodes}
use Rattle.world.proofs.ClientGoes.{client_goes}
use Rattle.world.proofs.Connects.{connects_goes, unused}
use Rattle.world.proofs.GoesDown.{put_down}
use Rattle.world.proofs.GroupGoes.{with_nodes, world_stands}
use Rattle.world.proofs.Joined.{world_goes_join}
use Rattle.world_pipes.proofs.of_clients.NodesGoOn.{nodes_stay}
use Rattle.world.proofs.NothingLost.{takes_exactly}
use Rattle.world.proofs.StandsThere.{core_found}

is_none : {X : Type 0} (o : Option X) → is_some o ≡ false → o ≡ None
is_none None e = refl
is_none (Some x) e = absurd (both_ways true e refl)

-- ---- its node takes it

pub connects_on : (i node : ℕ) (old new : WorldState) → SlotsAreValid (targets_of_clients old.clients) old.connections → new.losses ≡ old.losses → NodesGoOn old.nodes new.nodes → ConnectsAt i node old new
    → IsTrace old new
connects_on i node old new housed losses nodes one = record { rises = omega (arith, losses); nodes = nodes; goes = connects_goes i node old new housed one }

-- what a client that has it does to the world
pub connects_at : (i node number at : ℕ) (old : WorldState) (client : WorldClient) (between : NodesState) (piped : Piped) (after : List ConnectionSlot) → slice_get old.clients i ≡ Some client
    → number ≡ suc (length old.connections) → at ≡ length client.piped.pairs → after ≡ old.connections ++ record { client = i; at = at; node = node; is_open = true } ∷ []
    → HasNew node (port_at_node number) old.nodes client.piped between piped → ConnectsAt i node old (record (with_piped i client piped old) { nodes = between; connections = after })
connects_at i node number at old client between piped after found counted last is reaches =
    record {
      client = client;
      found = found;
      between = between;
      piped = piped;
      reaches = subst (λ (k : ℕ). HasNew node (port_at_node k) old.nodes client.piped between piped) counted reaches;
      is = ap (λ (l : List ConnectionSlot). let w : WorldState = record (with_piped i client piped old) { nodes = between; connections = l } in w)
          (is ∙ ap (λ (k : ℕ). old.connections ++ record { client = i; at = k; node = node; is_open = true } ∷ []) last);
    }

-- ---- it does not take it, or there is no memory for it

-- only the nodes
turned : (old : WorldState) (new : NodesState) (node : ℕ) (port : Port) → SlotsAreValid (targets_of_clients old.clients) old.connections → length old.connections < port.0
    → HearsOfOne false node port old.nodes new → FollowsModel old (with_nodes new old)
turned old new node port housed beyond (inl same) nodes config cs m trail s = world_stands old new (nodes_stay old.nodes new same) nodes config cs m trail s
turned old new node port housed beyond (inr hears) nodes config cs m trail s = by node refl
  where
    has : IsKnown false node port new
    has = hears.known

    by : (k : ℕ) → node ≡ k → ModelStepsTo [] m (with_nodes new old)
    by zero is = absurd (none-some has.core (sym (ap (numbered_node new.nodes) is) ∙ has.stands))
    by (suc n) is =
        let low : node - 1 ≡ n = omega (arith, is) in
        let does = subst (λ (k : ℕ). NodeDoesCall k (takes (Opened port 0)) old.nodes new) low hears.acts in
        let d = does m.group s.nodes in
        let found : slice_get new.nodes n ≡ Some has.core = sym (ap (numbered_node new.nodes) is) ∙ has.stands in
        let stands = ap (λ (l : List CoreState). slice_get l n) d.stands.nodes ∙ get_mapped (λ (c : CountedCore). c.core) new.nodes n has.core found in
        record {
          after = (let w : ByteWorld = record m { group = d.does.after } in w);
          steps = goes_on rests (is_taken_back n port 0 d.does has.core.core (unused n (length old.connections) port beyond old.clients m.clients s.clients housed.used) stands
              (is_none (listed_at port has.core.core) has.known));
          asked_is = refl;
          stands = record { nodes = d.stands; clients = s.clients };
        }

pub refused_on : (old : WorldState) (i node : ℕ) (client : WorldClient) (new : NodesState) (later : Piped) → SlotsAreValid (targets_of_clients old.clients) old.connections
    → slice_get old.clients i ≡ Some client → NodesGoOn old.nodes new → FollowsAll client.piped later → HearsOfOne false node (port_at_node (next_connection_number old)) old.nodes new
    → IsTrace old (put_down i client later new old)
refused_on old i node client new later housed found nodes follows hears =
    record {
      rises = omega arith;
      nodes = nodes;
      goes = world_goes_join old (with_nodes new old) (put_down i client later new old)
          (turned old new node (port_at_node (next_connection_number old)) housed (let e : length old.connections < suc (length old.connections) = omega arith in e) hears)
          (client_goes (with_nodes new old) i client later found follows);
    }

-- so it has none
pub opens_none : (node : ℕ) (old : WorldState) (i number : ℕ) (client : WorldClient) (new : NodesState) (later : Piped) → slice_get old.clients i ≡ Some client → number ≡ next_connection_number old
    → NoneOpens node (port_at_node number) old.nodes client.piped new later → OpensNoneAt i node old (put_down i client later new old)
opens_none node old i number client new later found counted none =
    record {
      client = client;
      found = found;
      between = new;
      piped = later;
      none = subst (λ (k : ℕ). NoneOpens node (port_at_node k) old.nodes client.piped new later) counted none;
      is = refl;
    }

-- ---- what is asked for is done

-- the connection that was asked for, exactly if the nodes counted no loss
record IsOpened (name : List ℕ) (node : ℕ) (old new : WorldState) : Type 0 where
  less : OpensOne false name node old new
  exact : NodesLoseNothing old.nodes new.nodes → OpensOne true name node old new

-- if its node has a name left
roomy : (whole : Bool) (name : List ℕ) (node : ℕ) (old new : WorldState) → has_no_name_left (numbered_node old.nodes.nodes node) ≡ false → OpensOne whole name node old new
    → OpensUnless (has_no_name_left (numbered_node old.nodes.nodes node)) whole name node old new
roomy whole name node old new left one = subst (λ (full : Bool). OpensUnless full whole name node old new) (sym left) one

-- and if it has none
spent : (whole : Bool) (name : List ℕ) (node : ℕ) (old new : WorldState) → has_no_name_left (numbered_node old.nodes.nodes node) ≡ true → new ≡ old
    → OpensUnless (has_no_name_left (numbered_node old.nodes.nodes node)) whole name node old new
spent whole name node old new none same = subst (λ (full : Bool). OpensUnless full whole name node old new) (sym none) same

opens_one : (name : List ℕ) (at node : ℕ) (old new : WorldState) → position (is_named name) old.clients ≡ Some at → OpensAt at node old new → IsOpened name node old new
opens_one name at node old new first o =
    let c : Named name old = record { at = at; first = first; client = o.connects.client; stands = o.connects.found } in
    let one : WorldState = with_connection c o.connects.piped node in
    let item : TakesItem false node (Opened (port_at_node (next_connection_number old)) 0) one new =
    (o.connects.between, o.connects.reaches.hears.step, subst (λ (w : WorldState). Gathers false node w new) o.connects.is o.gathers) in
    record {
      less = (c, o.connects.piped, o.connects.reaches.opens, item);
      exact = λ none. (c, o.connects.piped, o.connects.reaches.opens, takes_exactly node (Opened (port_at_node (next_connection_number old)) 0) one new item none);
    }

pub open_meets : (name : List ℕ) (at node : ℕ) (old new : WorldState) (client : WorldClient) → position (is_named name) old.clients ≡ Some at → slice_get old.clients at ≡ Some client
    → is_holding client.piped ≡ false → is_serving (numbered_node old.nodes.nodes node) ≡ true → has_no_name_left (numbered_node old.nodes.nodes node) ≡ false → OpeningOrLost at node old new
    → EventIsDone (events.Open name node) old new ⊎ HappensLosing (events.Open name node) old new
open_meets name at node old new client first stands free serving left begins = by begins
  where
    possible : (CannotOpen (core_named name old.clients) ⊎ (is_serving (numbered_node old.nodes.nodes node) ≡ false)) → ⊥
    possible (inl taken) = both_ways _ free (subst CannotOpen (core_found name old.clients at client first stands) taken)
    possible (inr idle) = both_ways _ idle serving

    none : (mid : WorldState) → MayOpenNone at node old mid → (mid ≡ old) ⊎ HappenDoes false (events.Open name node) old mid
    none mid (inl same) = inl same
    none mid (inr o) = inr (inr (record { at = at; first = first; client = o.client; stands = o.found }, o.piped, o.between, o.none, o.is))

    has_none : (mid : WorldState) → MayOpenNone at node old mid → (mid ≡ old) ⊎ OpensNone name node old mid
    has_none mid (inl same) = inl same
    has_none mid (inr o) = inr (record { at = at; first = first; client = o.client; stands = o.found }, o.piped, o.between, o.none, o.is)

    losses_none : (mid : WorldState) → MayOpenNone at node old mid → mid.losses ≡ old.losses
    losses_none mid (inl same) = ap (λ (w : WorldState). w.losses) same
    losses_none mid (inr o) = ap (λ (w : WorldState). w.losses) o.is

    by : OpeningOrLost at node old new → EventIsDone (events.Open name node) old new ⊎ HappensLosing (events.Open name node) old new
    by (inl o) =
        let one = opens_one name at node old new first o in
        inl (record {
          possible = possible;
          does = inr (inl (roomy false name node old new left one.less));
          exact = λ none. roomy true name node old new left (one.exact none);
          uncounted = o.uncounted;
        })
    by (inr (inl (o, counted))) =
        inl (record { possible = possible; does = none new o; exact = λ lost. absurd (counted lost); uncounted = losses_none new o })
    by (inr (inr (mid, o, is))) = inr (record { possible = possible; takes_memory = λ full low. both_ways _ left full; done = mid; does = none mid o; lost = or_nodes (has_none mid o); counted = is })

-- a node that has no name left closes the connection at once
pub full_meets : (name : List ℕ) (at node : ℕ) (old : WorldState) (client : WorldClient) → position (is_named name) old.clients ≡ Some at → slice_get old.clients at ≡ Some client
    → is_holding client.piped ≡ false → is_serving (numbered_node old.nodes.nodes node) ≡ true → has_no_name_left (numbered_node old.nodes.nodes node) ≡ true
    → EventIsDone (events.Open name node) old old
full_meets name at node old client first stands free serving none =
    record { possible = possible; does = inl refl; exact = λ whole. spent true name node old old none refl; uncounted = refl }
  where
    possible : (CannotOpen (core_named name old.clients) ⊎ (is_serving (numbered_node old.nodes.nodes node) ≡ false)) → ⊥
    possible (inl taken) = both_ways _ free (subst CannotOpen (core_found name old.clients at client first stands) taken)
    possible (inr idle) = both_ways _ idle serving

-- a client that holds a connection opens none
pub is_taken : (name : List ℕ) (w : WorldState) (at : ℕ) (client : WorldClient) → position (is_named name) w.clients ≡ Some at → slice_get w.clients at ≡ Some client
    → is_holding client.piped ≡ true → CannotOpen (core_named name w.clients)
is_taken name w at client first stands holds = subst CannotOpen (sym (core_found name w.clients at client first stands)) holds

pub is_free : (w : WorldState) (at : ℕ) (client : WorldClient) → slice_get w.clients at ≡ Some client → is_holding client.piped ≡ false
    → IfSome (slice_get w.clients at) (λ found. is_holding found.piped ≡ false)
is_free w at client stands free = subst (λ (o : Option WorldClient). IfSome o (λ found. is_holding found.piped ≡ false)) (sym stands) free

pub of_found : (clients : List WorldClient) (at : ℕ) (client : WorldClient) → slice_get clients at ≡ Some client → IfSome (slice_get clients at) (λ found. is_holding found.piped ≡ false)
    → is_holding client.piped ≡ false
of_found clients at client stands free = subst (λ (o : Option WorldClient). IfSome o (λ found. is_holding found.piped ≡ false)) stands free
