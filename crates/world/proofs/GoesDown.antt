-- GoesDown.antt: what a node hands over for a connection goes down on it.
use Rattle.std.proofs.Common.{◌≡◌, inl, inr, ◌-◌, ℕ, suc, Bool, if◌then◌else◌, List, [], ◌++◌, Option, Some, None, set, slice_get, refl, sym, ap, ◌∙◌, subst, arith}
use Rattle.std.proofs.lemmas.Option.{same_Some}
use Rattle.ballot_base.specs.declared.config.Config.{Config}
use Rattle.broker_spec.specs.Connection.{ConnectionName, same_connection}
use Rattle.broker_spec.specs.Place.{Client}
use Rattle.lists.specs.Lists.{In}
use Rattle.lists.proofs.Tests.{eq_is}
use Rattle.exactly_once.proofs.Takes.{same_name_self}
use Rattle.world_base.specs.declared.node_connections.connection.Connection.{Connection as NodesEnd}
use Rattle.world_base.specs.declared.node_connections.port.Port.{Port}
use Rattle.world_base.specs.node_connections.Connections.{is_at}
use Rattle.world_base.specs.node_core.Core.{CoreState, CountedCore}
use Rattle.world_base.specs.node_connections.PendingOutput.{pending_bytes}
use Rattle.world_base.specs.node_core.PortOutput.{listed_at}
use Rattle.headline.specs.node_moves.Moves.NodeCall.{hands_out}
use Rattle.headline.proofs.of_node_moves.Views.{found_passes}
use Rattle.headline.specs.node_group.Streams.{bytes_named}
use Rattle.headline.specs.node_group.Streams.{goes_down as goes_down_in}
use Rattle.headline.specs.byte_world.World.{HasPipe, Pipe, ByteWorld, with_client, with_pipe}
use Rattle.headline.specs.byte_world.Steps.{Reached}
use Rattle.headline.specs.byte_world.Steps.ByteWorldStep.{goes_down}
use Rattle.headline.proofs.of_byte_world.NodesGoOn.{carries_with}
use Rattle.headline.proofs.of_byte_world.PipesHold.{found_in}
use Rattle.headline.proofs.of_byte_world.PipesInOrder.{reached_holds}
use Rattle.world_nodes.specs.ExactSteps.{NodeDoesCall, HandsOver}
use Rattle.world_nodes.specs.Nodes.{NodesState}
use Rattle.world_pipes.specs.declared.pair.PipePair.{PipePair}
use Rattle.world_pipes.specs.Piped.{Piped}
use Rattle.world_pipes.specs.declared.clients.connection_slot.ConnectionSlot.{ConnectionSlot}
use Rattle.world_pipes.specs.declared.clients.world_client.WorldClient.{WorldClient}
use Rattle.world_pipes.specs.clients.SlotsAreValid.{LeadsThere, targets_of_clients}
use Rattle.world_pipes.specs.clients.NodeOutput.{with_down}
use Rattle.world_pipes.specs.clients.NodeOutput.{MayHandDown, MayPutDown}
use Rattle.world_pipes.specs.clients.NodesGoOn.{NodesStay}
use Rattle.world.specs.StandsFor.{ModelStepsTo, WorldStandsFor, FollowsModel}
use Rattle.world.specs.StandsFor.WorldSteps.{rests, goes_on}
use Rattle.world.specs.World.{WorldState}
use Rattle.world.proofs.ClientsStand.{StandsAt, client_at, stand_set}
use Rattle.world_pipes.proofs.of_clients.LeadsKept.{led}
use Rattle.world_pipes.proofs.of_clients.Turned.{mapped_from, set_itself}
use Rattle.world.proofs.PairsStand.{PipeAt, pipe_at, pair_changes}

-- all that a node hands over at a port is of one name
all_named : (x : ConnectionName) (port : Port) (core : CoreState) → ((d : NodesEnd) → In d core.connections → d.port.0 ≡ port.0 → d.name ≡ x)
    → bytes_named x (listed_at port core) ≡ pending_bytes (listed_at port core)
all_named x port core ports = by (listed_at port core) refl
  where
    named : (d : NodesEnd) → d.name ≡ x → (let l : List ℕ = if same_connection d.name x then d.pending else [] in l) ≡ d.pending
    named d is = ap (λ (b : Bool). let l : List ℕ = if b then d.pending else [] in l) (ap (λ (y : ConnectionName). same_connection y x) is ∙ same_name_self x)

    by : (o : Option NodesEnd) → listed_at port core ≡ o → bytes_named x o ≡ pending_bytes o
    by None e = refl
    by (Some d) e = named d (ports d (found_in (is_at port) core.connections d e) (eq_is d.port.0 port.0 (found_passes (is_at port) core.connections d e)))

-- the world after it
abbrev pub put_down : ℕ → WorldClient → Piped → NodesState → WorldState → WorldState
put_down i client later new old = record old { nodes = new; clients = set old.clients i (record client { piped = later }) }

module _ {nodes : ℕ} {config : Config} {cs : List Client} (m : ByteWorld) (trail : Reached nodes config cs m) (old : WorldState) (s : WorldStandsFor m old) (place : ConnectionSlot) (client : WorldClient)
    (one : StandsAt m.clients place.client client.piped) (pair : PipePair) (x : PipeAt client.piped one.c place.at pair) (new : NodesState) where
  has : HasPipe m place.client one.c x.turned.place x.κ x.p
  has = record { client = one.at; connection = x.connection; pipe = x.pipe }

  -- with the bytes that it handed over
  hands_down : (bytes : List ℕ) → NodeDoesCall x.p.node (hands_out x.p.port) old.nodes new → HandsOver (suc x.p.node) x.p.port old.nodes pair.down bytes
      → ModelStepsTo [] m (put_down place.client client (with_down place.at pair bytes client.piped) new old)
  hands_down bytes acts over =
      let d = acts m.group s.nodes in
      let carried = carries_with m.group d.does.after d.does.step x.p.node (hands_out x.p.port) d.does.faithful d.does.is in
      let placed = ((reached_holds m trail).each place.client one.c x.turned.place x.κ x.p has).placed in
      let same : placed.core ≡ carried.core = same_Some placed.core carried.core (sym placed.stands ∙ carried.stands) in
      let named = all_named x.κ.name x.p.port carried.core (λ e i at. placed.ports e (subst (λ (k : CoreState). In e k.connections) (sym same) i) at) in
      let core = mapped_from (λ (c : CountedCore). c.core) old.nodes.nodes x.p.node carried.core (sym (ap (λ (l : List CoreState). slice_get l x.p.node) s.nodes.nodes) ∙ carried.stands) in
      let handed = over core.x core.found in
      let down : bytes ≡ x.p.down ++ goes_down_in x.κ.name d.does.step =
      handed ∙ ap (λ (l : List ℕ). l ++ pending_bytes (listed_at x.p.port core.x.core)) (sym x.is.down)
      ∙ ap (λ (l : List ℕ). x.p.down ++ l)
      (ap (λ (k : CoreState). pending_bytes (listed_at x.p.port k)) core.is ∙ sym named ∙ sym (carried.down x.κ.name)) in
      let q : Pipe = record x.p { down = x.p.down ++ goes_down_in x.κ.name d.does.step } in
      let later : PipePair = record pair { down = bytes } in
      record {
        after = with_client place.client (with_pipe x.turned.place q one.c) (record m { group = d.does.after });
        steps = goes_on rests (goes_down place.client x.turned.place one.c x.κ x.p d.does has);
        asked_is = refl;
        stands = record {
          nodes = d.stands;
          clients = stand_set old.clients m.clients place.client (record client { piped = with_down place.at pair bytes client.piped }) (with_pipe x.turned.place q one.c) s.clients
              (pair_changes client.piped one.c place.at pair later x q one.stands
              (record { node = x.is.node; port = x.is.port; up = x.is.up; down = sym down }) (λ e. e) refl);
        };
      }

  -- with none, if the node is unknown, or there is no memory for them
  hands_nothing : (later : Piped) → slice_get old.clients place.client ≡ Some client → NodesStay old.nodes new → later ≡ client.piped → ModelStepsTo [] m (put_down place.client client later new old)
  hands_nothing later at stay still =
      subst (λ (z : Piped). ModelStepsTo [] m (put_down place.client client z new old)) (sym still)
      (subst (λ (l : List WorldClient). ModelStepsTo [] m (let w : WorldState = record old { nodes = new; clients = l } in w)) (sym (set_itself old.clients place.client client at))
      (record { after = m; steps = rests; asked_is = refl; stands = record { nodes = stay m.group s.nodes; clients = s.clients } }))

-- what its node queued for the connection of a number goes down, or nothing does
pub puts_down : (old : WorldState) (number : ℕ) (place : ConnectionSlot) (client : WorldClient) (new : NodesState) (later : Piped) → LeadsThere (targets_of_clients old.clients) number place
    → slice_get old.clients place.client ≡ Some client → MayPutDown place.at place.node (record { 0 = number }) old.nodes client.piped new later
    → FollowsModel old (put_down place.client client later new old)
puts_down old number place client new later there at puts nodes config cs m trail s =
    let l = led old.clients number place client there at in
    let one = client_at old.clients m.clients place.client client s.clients at in
    let x = pipe_at client.piped one.c place.at l.pair one.stands l.found in
    let p = puts l.pair l.found in by l.pair one x p.0 l.node l.port l.found p.1 p.2
  where
    by : (pair : PipePair) (one : StandsAt m.clients place.client client.piped) (x : PipeAt client.piped one.c place.at pair) (bytes : List ℕ) → suc pair.node ≡ place.node → pair.port ≡ record { 0 = number }
        → slice_get client.piped.pairs place.at ≡ Some pair
        → MayHandDown place.node (record { 0 = number }) old.nodes pair.down new bytes → later ≡ with_down place.at pair bytes client.piped
        → ModelStepsTo [] m (put_down place.client client later new old)
    by pair one x bytes node port found (inl (stay, still)) is =
        hands_nothing m trail old s place client one pair x new later at stay
        (is ∙ ap (λ (b : List ℕ). with_down place.at pair b client.piped) still
        ∙ ap (λ (ws : List PipePair). let z : Piped = record client.piped { pairs = ws } in z) (set_itself client.piped.pairs place.at pair found))
    by pair one x bytes node port found (inr (acts, over)) is =
        let number_is : place.node ≡ suc x.p.node = sym node ∙ ap suc (sym x.is.node) in
        let port_is : (let q : Port = record { 0 = number } in q) ≡ x.p.port = sym port ∙ sym x.is.port in
        let low : place.node - 1 ≡ x.p.node = omega (arith, number_is) in
        subst (λ (z : Piped). ModelStepsTo [] m (put_down place.client client z new old)) (sym is)
        (hands_down m trail old s place client one pair x new bytes
        (subst (λ (k : ℕ). NodeDoesCall k (hands_out x.p.port) old.nodes new) low (subst (λ (q : Port). NodeDoesCall (place.node - 1) (hands_out q) old.nodes new) port_is acts))
        (subst (λ (k : ℕ). HandsOver k x.p.port old.nodes pair.down bytes) number_is (subst (λ (q : Port). HandsOver place.node q old.nodes pair.down bytes) port_is over)))
