-- If a port of a node is used for one connection, the connection's name goes with it.
use Rattle.std.proofs.Common.{◌≡◌, ◌⊎◌, inl, inr, ℕ, true, false, List, [], ◌∷◌, Option, Some, None, slice_get, refl, sym, ap, ◌∙◌, subst}
use Rattle.std.specs.List.{find}
use Rattle.std.proofs.lemmas.Bool.{both_ways}
use Rattle.lists.specs.Lists.{In}
use Rattle.lists.specs.Lists.In.{here, there}
use Rattle.lists.proofs.Tests.{or_none}
use Rattle.ballot_base.specs.declared.config.Config.{Config}
use Rattle.broker_spec.specs.Connection.{ConnectionName, IsConnectionName, is_connection_name, same_connection}
use Rattle.exactly_once.proofs.Takes.{same_name_self}
use Rattle.world_base.specs.declared.node_connections.connection.Connection.{Connection as NodesEnd}
use Rattle.world_base.specs.declared.node_connections.port.Port.{Port}
use Rattle.world_base.specs.declared.node_core.item.Item.TheVariants.{Opened}
use Rattle.world_base.specs.node_connections.Connections.{is_at}
use Rattle.world_base.specs.node_core.Core.{CoreState}
use Rattle.world_base.specs.node_core.Step.{next_name}
use Rattle.headline.specs.node_moves.Ends.{IsGiven}
use Rattle.headline.specs.node_moves.Moves.{NodeCall}
use Rattle.headline.specs.node_moves.Moves.NodeCall.{takes}
use Rattle.headline.proofs.of_node_moves.Kept.{named}
use Rattle.headline.proofs.of_node_moves.NamesInOrder.{next_precedes, not_both}
use Rattle.headline.specs.node_group.Group.{Group, opening_cores}
use Rattle.headline.specs.node_group.Steps.{GroupStep, GroupTrace, groups_on_trace}
use Rattle.headline.specs.node_group.Steps.GroupTrace.{opened, then_went}
use Rattle.headline.proofs.of_node_group.CarriedInOrder.{no_connections}
use Rattle.headline.proofs.of_node_group.NamesInGroups.{all_well, each_got}
use Rattle.headline.specs.byte_world.Apart.{HasName}
use Rattle.headline.specs.byte_world.Transport.{node_call_of}
use Rattle.headline.proofs.NamesGiven.{names_fit}
use Rattle.headline.proofs.of_byte_world.NamesApart.{names_stay_apart}
use Rattle.headline.proofs.of_byte_world.NodesGoOn.{IsOpened, StoodAs, of_each, stood_as}
use Rattle.headline.proofs.of_byte_world.PipesHold.{is_the_port, listed_there, none_found}
use Rattle.headline.proofs.of_byte_world.PortsKept.{IsOfOld}
use Rattle.one_client.specs.Calls.{calls_on, opens_at, was_opened}
use Rattle.one_client.specs.Names.{HadConnection, HasNameAt, IsNameAt, NamesGoWithPorts, OpensOnce, PortsHaveNames}
use Rattle.one_client.proofs.PortBytes.{had_later, had_now, same_core, the_port}

-- ---- at the opening

none_listed : (d : NodesEnd) (cs : List NodesEnd) → cs ≡ [] → In d cs → ⊥
none_listed d [] e i = elim i [ ]
none_listed d (c ∷ cs) e i = cc

-- ---- a connection after a step was there before, or is opened in it

pub data CameFrom {nodes : ℕ} {config : Config} {g h : Group} (went : GroupTrace nodes config g) (step : GroupStep g h) (n : ℕ) (d : NodesEnd) : Type 0 where
  was_there : (c : NodesEnd) → HadConnection went n c → d.port ≡ c.port → d.name ≡ c.name → CameFrom went step n d
  is_opened : (core : CoreState) → slice_get g.nodes n ≡ Some core → IsOpened (node_call_of step) n core d → CameFrom went step n d

came_from : {nodes : ℕ} {config : Config} {g h : Group} (went : GroupTrace nodes config g) (step : GroupStep g h) (n : ℕ) (d : NodesEnd) → HadConnection (then_went went step) n d → CameFrom went step n d
came_from {g = g} {h = h} went step n d had = by had.earlier had.among had.stands
  where
    on : (s : StoodAs g h (node_call_of step) n had.core) → IsOfOld s.core.connections d ⊎ IsOpened (node_call_of step) n s.core d → CameFrom went step n d
    on s (inl o) = was_there o.was (had_now went n s.core o.was s.stands o.among) o.later.port o.later.name
    on s (inr o) = is_opened s.core s.stands o

    by : (e : Group) → In e (h ∷ groups_on_trace went) → slice_get e.nodes n ≡ Some had.core → CameFrom went step n d
    by e here at = let s = stood_as g h went step n had.core at in on s (s.after.was d had.listed)
    by e (there i) at = was_there d (record { earlier = e; among = i; core = had.core; stands = at; listed = had.listed }) refl refl

-- the port that a call opens
abbrev opened_port : Option (ℕ × NodeCall) → ℕ
opened_port (Some (n, takes (Opened port now))) = port.0
opened_port _ = 0

opens_there : (n : ℕ) (port : Port) (core : CoreState) (o : Option (ℕ × NodeCall)) (d : NodesEnd) → IsOpened o n core d → d.port.0 ≡ port.0 → opens_at n port o ≡ true
opens_there n port core o d opened_so same =
    ap (opens_at n port) opened_so.is ∙ the_port n port n opened_so.port refl (sym (ap (λ (q : Port). q.0) opened_so.new.port_is) ∙ same)

-- ---- one port

-- no connection was at a port of which the node was not told
not_yet : {nodes : ℕ} {config : Config} {g : Group} (went : GroupTrace nodes config g) (n : ℕ) (port : Port) → was_opened n port went ≡ false → (d : NodesEnd) → HadConnection went n d → d.port.0 ≡ port.0 → ⊥
not_yet {nodes = nodes} {config = config} {g = g} (opened greatest can) n port none d had same = by had.earlier had.among had.stands
  where
    by : (e : Group) → In e (g ∷ []) → slice_get e.nodes n ≡ Some had.core → ⊥
    by e here at = none_listed d had.core.connections (each_got (λ (c : CoreState). c.connections ≡ []) (opening_cores nodes config) n had.core (no_connections nodes config) at) had.listed
    by e (there i) at = elim i [ ]
not_yet (then_went went step) n port none d had same = by (λ other c had_so at. not_yet went n port other c had_so at) (came_from went step n d had)
  where
    parts : (opens_at n port (node_call_of step) ≡ false) × (was_opened n port went ≡ false)
    parts = or_none (opens_at n port (node_call_of step)) (was_opened n port went) none

    by : (was_opened n port went ≡ false → (c : NodesEnd) → HadConnection went n c → c.port.0 ≡ port.0 → ⊥) → CameFrom went step n d → ⊥
    by ih (was_there c had_so port_is name_is) = ih parts.1 c had_so (sym (ap (λ (q : Port). q.0) port_is) ∙ same)
    by ih (is_opened core at opened_so) = both_ways (opens_at n port (node_call_of step)) parts.0 (opens_there n port core (node_call_of step) d opened_so same)

-- all connections at a port that is opened once have one name
one_name : {nodes : ℕ} {config : Config} {g : Group} (went : GroupTrace nodes config g) (n : ℕ) (port : Port) → OpensOnce n port (calls_on went) → (c d : NodesEnd) → HadConnection went n c → HadConnection went n d
    → c.port.0 ≡ port.0 → d.port.0 ≡ port.0 → c.name ≡ d.name
one_name (opened greatest can) n port once c d had_c had_d at_c at_d = absurd (not_yet (opened greatest can) n port refl c had_c at_c)
one_name {g = h} (then_went {group = g} went step) n port once c d had_c had_d at_c at_d =
    by (λ a b had_a had_b at_a at_b. one_name went n port once.1 a b had_a had_b at_a at_b) (came_from went step n c had_c) (came_from went step n d had_d)
  where
    -- the port was not opened before
    first : (core : CoreState) (e : NodesEnd) → IsOpened (node_call_of step) n core e → e.port.0 ≡ port.0 → (b : NodesEnd) → HadConnection went n b → b.port.0 ≡ port.0 → ⊥
    first core e opened_so at_e b had at_b = not_yet went n port (once.0 (opens_there n port core (node_call_of step) e opened_so at_e)) b had at_b

    there_was : (e b : NodesEnd) → e.port ≡ b.port → e.port.0 ≡ port.0 → b.port.0 ≡ port.0
    there_was e b is at_e = sym (ap (λ (q : Port). q.0) is) ∙ at_e

    by : ((a b : NodesEnd) → HadConnection went n a → HadConnection went n b → a.port.0 ≡ port.0 → b.port.0 ≡ port.0 → a.name ≡ b.name) → CameFrom went step n c → CameFrom went step n d → c.name ≡ d.name
    by ih (was_there a had_a port_a name_a) (was_there b had_b port_b name_b) =
        name_a ∙ ih a b had_a had_b (there_was c a port_a at_c) (there_was d b port_b at_d) ∙ sym name_b
    by ih (was_there a had_a port_a name_a) (is_opened core at opened_so) = absurd (first core d opened_so at_d a had_a (there_was c a port_a at_c))
    by ih (is_opened core at opened_so) (was_there b had_b port_b name_b) = absurd (first core c opened_so at_c b had_b (there_was d b port_b at_d))
    by ih (is_opened core at opened_so) (is_opened other at_other opened_too) =
        opened_so.new.name_is ∙ ap next_name (same_core core other (sym at ∙ at_other)) ∙ sym opened_too.new.name_is

-- ---- one name

-- a name that the node gave stays given
pub had_given : {nodes : ℕ} {config : Config} {g : Group} (went : GroupTrace nodes config g) (n : ℕ) (core : CoreState) (d : NodesEnd) → slice_get g.nodes n ≡ Some core → HadConnection went n d
    → IsGiven core.last_name d.name
had_given {nodes = nodes} {config = config} {g = g} (opened greatest can) n core d at had = by had.earlier had.among had.stands
  where
    by : (e : Group) → In e (g ∷ []) → slice_get e.nodes n ≡ Some had.core → IsGiven core.last_name d.name
    by e here stood =
        absurd (none_listed d had.core.connections (each_got (λ (c : CoreState). c.connections ≡ []) (opening_cores nodes config) n had.core (no_connections nodes config) stood) had.listed)
    by e (there i) stood = elim i [ ]
had_given {nodes = nodes} {config = config} {g = h} (then_went {group = g} went step) n core d at had = by (λ k stood_k b. had_given went n k d stood_k b) had.earlier had.among had.stands
  where
    s : StoodAs g h (node_call_of step) n core
    s = stood_as g h went step n core at

    by : ((k : CoreState) → slice_get g.nodes n ≡ Some k → HadConnection went n d → IsGiven k.last_name d.name) → (e : Group) → In e (h ∷ groups_on_trace went) → slice_get e.nodes n ≡ Some had.core
        → IsGiven core.last_name d.name
    by ih e here stood =
        let one : had.core ≡ core = same_core had.core core (sym stood ∙ at) in
        of_each (λ (c : NodesEnd). IsGiven core.last_name c.name) (each_got _ h.nodes n core (all_well nodes config h (then_went went step)).0 at).orderly.given
        (subst (λ (k : CoreState). In d k.connections) one had.listed)
    by ih e (there i) stood =
        s.after.given d.name (ih s.core s.stands (record { earlier = e; among = i; core = had.core; stands = stood; listed = had.listed }))

-- all connections of a name have one port
one_port : {nodes : ℕ} {config : Config} {g : Group} (went : GroupTrace nodes config g) (n : ℕ) (c d : NodesEnd) → HadConnection went n c → HadConnection went n d → c.name ≡ d.name → c.port.0 ≡ d.port.0
one_port {nodes = nodes} {config = config} {g = g} (opened greatest can) n c d had_c had_d same = by had_c.earlier had_c.among had_c.stands
  where
    by : (e : Group) → In e (g ∷ []) → slice_get e.nodes n ≡ Some had_c.core → c.port.0 ≡ d.port.0
    by e here stood =
        absurd (none_listed c had_c.core.connections (each_got (λ (k : CoreState). k.connections ≡ []) (opening_cores nodes config) n had_c.core (no_connections nodes config) stood) had_c.listed)
    by e (there i) stood = elim i [ ]
one_port {nodes = nodes} {config = config} {g = h} (then_went {group = g} went step) n c d had_c had_d same =
    by (λ a b had_a had_b is. one_port went n a b had_a had_b is) (came_from went step n c had_c) (came_from went step n d had_d)
  where
    -- the name is new
    first : (core : CoreState) (e : NodesEnd) → slice_get g.nodes n ≡ Some core → IsOpened (node_call_of step) n core e → (b : NodesEnd) → HadConnection went n b → b.name ≡ e.name → ⊥
    first core e at opened_so b had is =
        not_both core.last_name (next_name core) (next_precedes core (each_got _ g.nodes n core (all_well nodes config g went).0 at).orderly.within)
        (subst (IsGiven core.last_name) (is ∙ opened_so.new.name_is) (had_given went n core b at had))

    by : ((a b : NodesEnd) → HadConnection went n a → HadConnection went n b → a.name ≡ b.name → a.port.0 ≡ b.port.0) → CameFrom went step n c → CameFrom went step n d → c.port.0 ≡ d.port.0
    by ih (was_there a had_a port_a name_a) (was_there b had_b port_b name_b) =
        ap (λ (q : Port). q.0) port_a ∙ ih a b had_a had_b (sym name_a ∙ same ∙ name_b) ∙ sym (ap (λ (q : Port). q.0) port_b)
    by ih (was_there a had_a port_a name_a) (is_opened core at opened_so) = absurd (first core d at opened_so a had_a (sym name_a ∙ same))
    by ih (is_opened core at opened_so) (was_there b had_b port_b name_b) = absurd (first core c at opened_so b had_b (sym name_b ∙ sym same))
    by ih (is_opened core at opened_so) (is_opened other at_other opened_too) =
        ap (λ (q : Port). q.0) opened_so.new.port_is ∙ ap opened_port (sym opened_so.is ∙ opened_too.is) ∙ sym (ap (λ (q : Port). q.0) opened_too.new.port_is)

-- ---- the law

-- a connection of a name is found by it
pub named_there : (x : ConnectionName) (cs : List NodesEnd) (d : NodesEnd) → In d cs → d.name ≡ x → (c : NodesEnd) × (find (named x) cs ≡ Some c)
named_there x cs d i is = by (find (named x) cs) refl
  where
    by : (o : Option NodesEnd) → find (named x) cs ≡ o → (c : NodesEnd) × (find (named x) cs ≡ Some c)
    by (Some c) e = (c, e)
    by None e =
        absurd (both_ways (named x d) (of_each (λ (z : NodesEnd). named x z ≡ false) (none_found (named x) cs e) i)
        (ap (λ (y : ConnectionName). same_connection y x) is ∙ same_name_self x))

has_name : {nodes : ℕ} {config : Config} {g : Group} (went : GroupTrace nodes config g) (n : ℕ) (d : NodesEnd) (x : ConnectionName) (had : HadConnection went n d) → d.name ≡ x → HasName x had.earlier n
has_name went n d x had is =
    let z = named_there x had.core.connections d had.listed is in record { core = had.core; stands = had.stands; connection = z.0; listed = z.1 }

pub names_go_with_ports : NamesGoWithPorts
names_go_with_ports nodes config g went n end once had =
    record {
      named = λ d had_d at. sym (one_name went n end.port once end d had had_d refl at);
      alone = λ m d had_d is.
          let same : n ≡ m = names_stay_apart nodes config g went end.name had.earlier had_d.earlier n m had.among had_d.among (has_name went n end end.name had refl) (has_name went m d end.name had_d is) in
          (sym same, one_port went n d end (subst (λ k. HadConnection went k d) (sym same) had_d) had is);
    }

-- ---- each port has a name

pub same_ports : (a b : Port) → a.0 ≡ b.0 → a ≡ b
same_ports a b e = ap (λ n. let q : Port = record { 0 = n } in q) e

-- a connection was at the port at some time, or none ever was
pub data EverAt {nodes : ℕ} {config : Config} {g : Group} (went : GroupTrace nodes config g) (n : ℕ) (port : Port) : Type 0 where
  was_at : (d : NodesEnd) → HadConnection went n d → d.port.0 ≡ port.0 → EverAt went n port
  never_at : ((d : NodesEnd) → HadConnection went n d → d.port.0 ≡ port.0 → ⊥) → EverAt went n port

-- if none was before a step, whether one is after it
after_none : {nodes : ℕ} {config : Config} {g h : Group} (went : GroupTrace nodes config g) (step : GroupStep g h) (n : ℕ) (port : Port) → ((d : NodesEnd) → HadConnection went n d → d.port.0 ≡ port.0 → ⊥)
    → EverAt (then_went went step) n port
after_none {h = h} went step n port none = by (slice_get h.nodes n) refl
  where
    -- the nodes after the step have none
    still_none : ((core : CoreState) (d : NodesEnd) → slice_get h.nodes n ≡ Some core → In d core.connections → d.port.0 ≡ port.0 → ⊥) → EverAt (then_went went step) n port
    still_none now = never_at (λ d had same. on d same had.core had.listed had.earlier had.among had.stands)
      where
        on : (d : NodesEnd) → d.port.0 ≡ port.0 → (core : CoreState) → In d core.connections → (e : Group) → In e (h ∷ groups_on_trace went) → slice_get e.nodes n ≡ Some core → ⊥
        on d same core listed e here at = now core d at listed same
        on d same core listed e (there i) at = none d (record { earlier = e; among = i; core = core; stands = at; listed = listed }) same

    no_node : (core : CoreState) → (let o : Option CoreState = None in o) ≡ Some core → ⊥
    no_node core e = cc

    in_core : (core : CoreState) → slice_get h.nodes n ≡ Some core → (o : Option NodesEnd) → find (is_at port) core.connections ≡ o → EverAt (then_went went step) n port
    in_core core at (Some d) e = let f = listed_there port core d e in was_at d (had_now (then_went went step) n core d at f.among) f.at
    in_core core at None e =
        still_none (λ other d stands listed same.
        both_ways (is_at port d)
        (of_each (λ (z : NodesEnd). is_at port z ≡ false) (none_found (is_at port) core.connections e)
        (subst (λ (k : CoreState). In d k.connections) (same_core other core (sym stands ∙ at)) listed)) (is_the_port port d same))

    by : (o : Option CoreState) → slice_get h.nodes n ≡ o → EverAt (then_went went step) n port
    by None e = still_none (λ core d at listed same. no_node core (sym e ∙ at))
    by (Some core) e = in_core core e (find (is_at port) core.connections) refl

pub ever_at : {nodes : ℕ} {config : Config} {g : Group} (went : GroupTrace nodes config g) (n : ℕ) (port : Port) → EverAt went n port
ever_at (opened greatest can) n port = never_at (λ d had same. not_yet (opened greatest can) n port refl d had same)
ever_at (then_went went step) n port = by (ever_at went n port)
  where
    by : EverAt went n port → EverAt (then_went went step) n port
    by (was_at d had same) = was_at d (had_later went step n d had) same
    by (never_at none) = after_none went step n port none

-- a name that a node gave is in its ranges
pub had_named : {nodes : ℕ} {config : Config} {g : Group} (went : GroupTrace nodes config g) (n : ℕ) (d : NodesEnd) → HadConnection went n d → IsConnectionName d.name
had_named went n d had = names_fit went d.name had.earlier n had.among (has_name went n d d.name had refl)

-- any spare name is that of a port at which no connection ever was
pub spare_at : {nodes : ℕ} {config : Config} {g : Group} (went : GroupTrace nodes config g) (n : ℕ) (port : Port) (spare : ConnectionName) → ((d : NodesEnd) → HadConnection went n d → d.port.0 ≡ port.0 → ⊥)
    → is_connection_name spare ≡ false → IsNameAt went spare n port
spare_at went n port spare none out =
    record {
      named = λ d had same. absurd (none d had same);
      alone = λ m d had is. absurd (both_ways (is_connection_name spare) out (ap is_connection_name (sym is) ∙ had_named went m d had));
    }

-- as if the node was never told of one
pub untold_name : {nodes : ℕ} {config : Config} {g : Group} (went : GroupTrace nodes config g) (n : ℕ) (port : Port) (spare : ConnectionName) → was_opened n port went ≡ false → is_connection_name spare ≡ false
    → IsNameAt went spare n port
untold_name went n port spare untold out = spare_at went n port spare (λ d had same. not_yet went n port untold d had same) out

pub ports_have_names : PortsHaveNames
ports_have_names nodes config g went n port spare once out = by (ever_at went n port)
  where
    by : EverAt went n port → HasNameAt went n port spare
    by (was_at d had same) =
        let is = same_ports d.port port same in
        record {
          name = d.name;
          is = subst (IsNameAt went d.name n) is (names_go_with_ports nodes config g went n d (subst (λ (q : Port). OpensOnce n q (calls_on went)) (sym is) once) had);
          given = inl (had_named went n d had);
        }
    by (never_at none) =
        record {
          name = spare;
          is = spare_at went n port spare none out;
          given = inr refl;
        }
