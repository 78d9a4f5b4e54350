-- What holds for each connection with its pipe, and that a step of the group keeps it.
use Rattle.std.proofs.Common.{◌≡◌, ◌⊎◌, inl, inr, ℕ, Bool, true, false, ◌&&◌, ◌==◌, if◌then◌else◌, List, [], ◌∷◌, ◌++◌, Option, Some, None, slice_get, refl, sym, ap, ◌∙◌, subst}
use Rattle.std.specs.List.{find}
use Rattle.std.proofs.lemmas.Bool.{both_ways}
use Rattle.std.proofs.lemmas.List.{append-nil}
use Rattle.packet.specs.Spelling.{IsPacket}
use Rattle.packet.specs.declared.packet.Packet.{Packet}
use Rattle.ballot_base.specs.declared.config.Config.{Config}
use Rattle.broker_spec.specs.Connection.{ConnectionName, same_connection}
use Rattle.broker_spec.proofs.ConnectionNames.{same_name}
use Rattle.lists.specs.Lists.{Each, In}
use Rattle.lists.specs.Lists.In.{here, there}
use Rattle.lists.proofs.Tests.{eq_is, eq_same}
use Rattle.headline.specs.node_moves.Pipe.{Joins}
use Rattle.exactly_once.specs.Sides.{ClientConnection}
use Rattle.exactly_once.proofs.Takes.{same_name_self}
use Rattle.world_base.specs.declared.node_connections.connection.Connection.{Connection as NodesEnd}
use Rattle.world_base.specs.declared.node_core.item.Item.TheVariants.{Peer, Tick, Opened, Bytes, Ended, Expel, Cut, Crash}
use Rattle.world_base.specs.declared.node_connections.port.Port.{Port}
use Rattle.world_base.specs.node_connections.Connections.{is_at, is_open_at}
use Rattle.world_base.specs.node_core.Core.{CoreState}
use Rattle.world_base.specs.node_core.PortOutput.{listed_at}
use Rattle.world_base.specs.node_core.PacketInput.{open_at}
use Rattle.headline.specs.node_moves.Ends.{IsGiven, piece_on}
use Rattle.headline.specs.node_moves.Moves.{NodeCall}
use Rattle.headline.specs.node_moves.Moves.NodeCall.{takes, hands_out}
use Rattle.headline.specs.node_moves.Puts.{spelled}
use Rattle.headline.proofs.of_node_moves.Kept.{left_true, live}
use Rattle.headline.proofs.of_node_moves.Views.{found_each, found_passes, some_none}
use Rattle.headline.specs.node_group.Group.{Group}
use Rattle.headline.specs.node_group.Steps.{GroupStep, GroupTrace, groups_on_trace}
use Rattle.headline.specs.node_group.Steps.GroupTrace.{then_went}
use Rattle.headline.specs.node_group.Streams.{bytes_named, came_up, comes_up, goes_down, went_down}
use Rattle.headline.specs.byte_world.Apart.{HasName}
use Rattle.headline.specs.byte_world.Steps.{coming_with, node_call_of, going_with}
use Rattle.headline.specs.byte_world.World.{Pipe, packets_of}
use Rattle.headline.proofs.of_byte_world.NodesGoOn.{CarriesWith, IsOpened, StoodAs, of_each, stands_as, stood_as}
use Rattle.headline.proofs.of_byte_world.OnTheWay.{IsHandled, piece_up, written_up}
use Rattle.headline.proofs.of_byte_world.PortsKept.{IsOfOld}

-- the name was given by this node, which had it then, and at this port it has no connection of another name
pub record IsPlaced {nodes : ℕ} {config : Config} {g : Group} (went : GroupTrace nodes config g) (x : ConnectionName) (n : ℕ) (port : Port) : Type 0 where
  pub core : CoreState
  pub stands : slice_get g.nodes n ≡ Some core
  pub given : IsGiven core.last_name x
  pub ports : (d : NodesEnd) → In d core.connections → d.port.0 ≡ port.0 → d.name ≡ x
  pub earlier : Group
  pub among : In earlier (groups_on_trace went)
  pub had : HasName x earlier n

-- The packets that were written are those of the bytes that came up and of later ones: those in
-- transit, if the node has the connection open.
pub record IsUp (g : Group) (written : List Packet) (came : List ℕ) (n : ℕ) (port : Port) (up : List ℕ) : Type 0 where
  pub later : List ℕ
  pub joined : Joins written (came ++ later)
  pub still : (core : CoreState) (d : NodesEnd) → slice_get g.nodes n ≡ Some core → In d core.connections → d.port.0 ≡ port.0 → live d ≡ true → later ≡ up

pub record PipeHolds {nodes : ℕ} {config : Config} {g : Group} (went : GroupTrace nodes config g) (κ : ClientConnection) (p : Pipe) : Type 0 where
  pub placed : IsPlaced went κ.name p.node p.port
  pub up : IsUp g (packets_of κ.written) (came_up κ.name went) p.node p.port p.up
  pub down : IsHandled κ.handled p.came p.down (went_down κ.name went)

-- ---- a step opens no connection at this port

abbrev pub OpensNone : {g h : Group} → GroupStep g h → ℕ → Port → Type 0
OpensNone {g = g} step n port = (core : CoreState) (d : NodesEnd) → slice_get g.nodes n ≡ Some core → IsOpened (node_call_of step) n core d → d.port.0 ≡ port.0 → ⊥

abbrev pub opens_in : Option (ℕ × NodeCall) → Bool
opens_in None = false
opens_in (Some (n, takes (Opened port now))) = true
opens_in (Some (n, takes (Peer message))) = false
opens_in (Some (n, takes (Tick now))) = false
opens_in (Some (n, takes (Bytes port piece now))) = false
opens_in (Some (n, takes (Ended port))) = false
opens_in (Some (n, takes (Expel client))) = false
opens_in (Some (n, takes Cut)) = false
opens_in (Some (n, takes Crash)) = false
opens_in (Some (n, hands_out port)) = false

pub none_opens : {g h : Group} (step : GroupStep g h) (n : ℕ) (port : Port) → opens_in (node_call_of step) ≡ false → OpensNone step n port
none_opens step n port none core d at opened same = both_ways (opens_in (node_call_of step)) none (ap opens_in opened.is)

pub placed_on : {nodes : ℕ} {config : Config} {g h : Group} (went : GroupTrace nodes config g) (step : GroupStep g h) (x : ConnectionName) (n : ℕ) (port : Port) → OpensNone step n port
    → IsPlaced went x n port → IsPlaced (then_went went step) x n port
placed_on {g = g} {h = h} went step x n port none p =
    let s = stands_as g h went step n p.core p.stands in
    record {
      core = s.later;
      stands = s.stands;
      given = s.after.given x p.given;
      ports = λ d i e. by d e (s.after.was d i);
      earlier = p.earlier;
      among = there p.among;
      had = p.had;
    }
  where
    by : (d : NodesEnd) → d.port.0 ≡ port.0 → IsOfOld p.core.connections d ⊎ IsOpened (node_call_of step) n p.core d → d.name ≡ x
    by d e (inl o) = o.later.name ∙ p.ports o.was o.among (sym (ap (λ (q : Port). q.0) o.later.port) ∙ e)
    by d e (inr opened) = absurd (none p.core d p.stands opened e)

-- ---- up

-- no bytes come up
pub up_on : {nodes : ℕ} {config : Config} {g h : Group} (went : GroupTrace nodes config g) (step : GroupStep g h) (n : ℕ) (port : Port) {written : List Packet} {came up : List ℕ} (more : List ℕ)
    → OpensNone step n port → more ≡ [] → IsUp g written came n port up → IsUp h written (came ++ more) n port up
up_on {g = g} {h = h} went step n port {written = written} {came = came} {up = up} more none empty u =
    record {
      later = u.later;
      joined = subst (λ (l : List ℕ). Joins written (l ++ u.later)) (sym (ap (λ l. came ++ l) empty ∙ append-nil came)) u.joined;
      still = λ core d at i same lives. by core d same lives (stood_as g h went step n core at) i;
    }
  where
    on : (core : CoreState) (d : NodesEnd) → slice_get g.nodes n ≡ Some core → d.port.0 ≡ port.0 → live d ≡ true → IsOfOld core.connections d ⊎ IsOpened (node_call_of step) n core d → u.later ≡ up
    on core d at same lives (inl o) = u.still core o.was at o.among (sym (ap (λ (q : Port). q.0) o.later.port) ∙ same) (o.later.lives lives)
    on core d at same lives (inr opened) = absurd (none core d at opened same)

    by : (core : CoreState) (d : NodesEnd) → d.port.0 ≡ port.0 → live d ≡ true → StoodAs g h (node_call_of step) n core → In d core.connections → u.later ≡ up
    by core d same lives s i = on s.core d s.stands same lives (s.after.was d i)

-- the client writes
pub up_written : (g : Group) (written qs : List Packet) (came : List ℕ) (n : ℕ) (port : Port) (up : List ℕ) → Each IsPacket qs → IsUp g written came n port up
    → IsUp g (written ++ qs) came n port (up ++ spelled qs)
up_written g written qs came n port up whole u =
    record {
      later = u.later ++ spelled qs;
      joined = written_up written qs came u.later whole u.joined;
      still = λ core d at i same lives. ap (λ l. l ++ spelled qs) (u.still core d at i same lives);
    }

-- ---- a connection in a list

pub none_found : (test : NodesEnd → Bool) (cs : List NodesEnd) → find test cs ≡ None → Each (λ (c : NodesEnd). test c ≡ false) cs
none_found test [] e = tt
none_found test (c ∷ cs) e = by (test c) refl (none_found test cs) e
  where
    by : (b : Bool) → test c ≡ b → (find test cs ≡ None → Each (λ (d : NodesEnd). test d ≡ false) cs) → (if b then Some c else find test cs) ≡ None
        → Each (λ (d : NodesEnd). test d ≡ false) (c ∷ cs)
    by true is rest f = absurd (some_none c f)
    by false is rest f = (is, rest f)

all_in : (cs old : List NodesEnd) → ((c : NodesEnd) → In c cs → In c old) → Each (λ c. In c old) cs
all_in [] old among = tt
all_in (c ∷ cs) old among = (among c here, all_in cs old (λ d i. among d (there i)))

pub found_in : (test : NodesEnd → Bool) (cs : List NodesEnd) (c : NodesEnd) → find test cs ≡ Some c → In c cs
found_in test cs c e = found_each (λ d. In d cs) test cs c (all_in cs cs (λ d i. i)) e

same_core : (a b : CoreState) → (let o : Option CoreState = Some a in o) ≡ Some b → a ≡ b
same_core a b e = cc

both_true : (a b : Bool) → a ≡ true → b ≡ true → (a && b) ≡ true
both_true a b e f = rw (e, f) refl

right_true : (a b : Bool) → (a && b) ≡ true → b ≡ true
right_true true b e = e
right_true false b e = absurd cc

pub is_the_port : (port : Port) (d : NodesEnd) → d.port.0 ≡ port.0 → is_at port d ≡ true
is_the_port port d e = ap (λ k. d.port.0 == k) (sym e) ∙ eq_same d.port.0

-- if a connection is listed at a port, open or not
pub record IsListed (port : Port) (core : CoreState) (d : NodesEnd) : Type 0 where
  pub among : In d core.connections
  pub at : d.port.0 ≡ port.0

pub listed_there : (port : Port) (core : CoreState) (d : NodesEnd) → listed_at port core ≡ Some d → IsListed port core d
listed_there port core d e =
    record { among = found_in (is_at port) core.connections d e; at = eq_is d.port.0 port.0 (found_passes (is_at port) core.connections d e) }

-- if an open connection is found at a port
pub record IsThere (port : Port) (core : CoreState) (d : NodesEnd) : Type 0 where
  pub among : In d core.connections
  pub at : d.port.0 ≡ port.0
  pub lives : live d ≡ true

pub found_there : (port : Port) (core : CoreState) (d : NodesEnd) → open_at port core ≡ Some d → IsThere port core d
found_there port core d e =
    let passes = found_passes (is_open_at port) core.connections d e in
    record {
      among = found_in (is_open_at port) core.connections d e;
      at = eq_is d.port.0 port.0 (right_true (live d) (is_at port d) passes);
      lives = left_true (live d) (is_at port d) passes;
    }

-- ---- a piece comes up

pub up_piece : {nodes : ℕ} {config : Config} {g h : Group} (went : GroupTrace nodes config g) (step : GroupStep g h) (x : ConnectionName) (n : ℕ) (port : Port) (now : ℕ) {written : List Packet}
    {came up : List ℕ} (piece rest : List ℕ) → node_call_of step ≡ Some (n, takes (Bytes port piece now)) → CarriesWith g h step n (takes (Bytes port piece now)) → IsPlaced went x n port
    → up ≡ piece ++ rest → IsUp g written came n port up → IsUp h written (came ++ comes_up x step) n port rest
up_piece {g = g} {h = h} went step x n port now {written = written} {came = came} {up = up} piece rest is c placed cut u = by (open_at port c.core) refl
  where
    none : OpensNone step n port
    none = none_opens step n port (ap opens_in is)

    -- the node has it closed, and nothing is open there after
    was_shut : open_at port c.core ≡ None → (old : CoreState) (d : NodesEnd) → slice_get g.nodes n ≡ Some old → d.port.0 ≡ port.0 → live d ≡ true
        → IsOfOld old.connections d ⊎ IsOpened (node_call_of step) n old d → ⊥
    was_shut e old d stood same lives (inl o) =
        both_ways (is_open_at port o.was)
        (of_each (λ (z : NodesEnd). is_open_at port z ≡ false) (none_found (is_open_at port) c.core.connections e)
        (subst (λ (k : CoreState). In o.was k.connections) (same_core old c.core (sym stood ∙ c.stands)) o.among))
        (both_true (live o.was) (is_at port o.was) (o.later.lives lives) (is_the_port port o.was (sym (ap (λ (q : Port). q.0) o.later.port) ∙ same)))
    was_shut e old d stood same lives (inr opened) = none old d stood opened same

    shut : open_at port c.core ≡ None → (core : CoreState) (d : NodesEnd) → In d core.connections → d.port.0 ≡ port.0 → live d ≡ true → StoodAs g h (node_call_of step) n core → ⊥
    shut e core d i same lives s = was_shut e s.core d s.stands same lives (s.after.was d i)

    by : (o : Option NodesEnd) → open_at port c.core ≡ o → IsUp h written (came ++ comes_up x step) n port rest
    by None e =
        record {
          later = u.later;
          joined = subst (λ (l : List ℕ). Joins written (l ++ u.later)) (sym (ap (λ l. came ++ l) (c.up x ∙ ap (piece_on x piece) e) ∙ append-nil came)) u.joined;
          still = λ core d at i same lives. absurd (shut e core d i same lives (stood_as g h went step n core at));
        }
    by (Some d) e =
        let f = found_there port c.core d e in
        let named : d.name ≡ x = placed.ports d (subst (λ (k : CoreState). In d k.connections) (same_core c.core placed.core (sym c.stands ∙ placed.stands)) f.among) f.at in
        let same : u.later ≡ up = u.still c.core d c.stands f.among f.at f.lives in
        let more : comes_up x step ≡ piece =
        c.up x ∙ ap (piece_on x piece) e ∙ ap (λ (b : Bool). let l : List ℕ = if b then piece else [] in l) (ap (λ (y : ConnectionName). same_connection y x) named ∙ same_name_self x) in
        record {
          later = rest;
          joined = subst (λ (l : List ℕ). Joins written ((came ++ l) ++ rest)) (sym more)
              (piece_up written came piece rest up cut (subst (λ (l : List ℕ). Joins written (came ++ l)) same u.joined));
          still = λ core z at i same_port lives. refl;
        }

-- ---- a connection that has no part in a step

pub apart_on : {nodes : ℕ} {config : Config} {g h : Group} (went : GroupTrace nodes config g) (step : GroupStep g h) (κ : ClientConnection) (p : Pipe) → OpensNone step p.node p.port
    → comes_up κ.name step ≡ [] → goes_down κ.name step ≡ [] → PipeHolds went κ p → PipeHolds (then_went went step) κ p
apart_on went step κ p none up down h =
    record {
      placed = placed_on went step κ.name p.node p.port none h.placed;
      up = up_on went step p.node p.port (comes_up κ.name step) none up h.up;
      down = subst (IsHandled κ.handled p.came p.down) (sym (ap (λ l. went_down κ.name went ++ l) down ∙ append-nil (went_down κ.name went))) h.down;
    }

-- what comes is only for the connection of the port
pub others_up : (x : ConnectionName) (port : Port) (piece : List ℕ) (now : ℕ) (core : CoreState) (y : ConnectionName) → ((d : NodesEnd) → In d core.connections → d.port.0 ≡ port.0 → d.name ≡ x)
    → (x ≡ y → ⊥) → coming_with y (takes (Bytes port piece now)) core ≡ []
others_up x port piece now core y ports apart = by (open_at port core) refl
  where
    other : (d : NodesEnd) → d.name ≡ x → (b : Bool) → same_connection d.name y ≡ b → (if b then piece else []) ≡ []
    other d is true e = absurd (apart (sym is ∙ same_name d.name y e))
    other d is false e = refl

    by : (o : Option NodesEnd) → open_at port core ≡ o → piece_on y piece o ≡ []
    by None e = refl
    by (Some d) e = let f = found_there port core d e in other d (ports d f.among f.at) (same_connection d.name y) refl

-- the same for what is handed over
pub others_down : (x : ConnectionName) (port : Port) (core : CoreState) (y : ConnectionName) → ((d : NodesEnd) → In d core.connections → d.port.0 ≡ port.0 → d.name ≡ x)
    → (x ≡ y → ⊥) → going_with y (hands_out port) core ≡ []
others_down x port core y ports apart = by (listed_at port core) refl
  where
    other : (d : NodesEnd) → d.name ≡ x → (b : Bool) → same_connection d.name y ≡ b → (if b then d.pending else []) ≡ []
    other d is true e = absurd (apart (sym is ∙ same_name d.name y e))
    other d is false e = refl

    by : (o : Option NodesEnd) → listed_at port core ≡ o → bytes_named y o ≡ []
    by None e = refl
    by (Some d) e =
        other d (ports d (found_in (is_at port) core.connections d e) (eq_is d.port.0 port.0 (found_passes (is_at port) core.connections d e))) (same_connection d.name y) refl
