-- WaysWritten.antt: the list of a way out is short, and what is looked at before it is written is all that a way out asks for.
use Rattle.std.proofs.Common.{◌≡◌, ◌≤◌, ◌+◌, ◌-◌, ◌*◌, ◌&&◌, ◌==◌, ℕ, suc, Bool, true, false, if◌then◌else◌, List, [], ◌∷◌, ◌++◌, Option, Some, None, Result, Ok, Err, get_or, length, map, ◌<◌, slice_get, refl, sym, ap, ◌∙◌, subst, arith}
use Rattle.std.specs.Prelude.{IfOk, nat_le}
use Rattle.std.specs.List.{list_all, list_any, position}
use Rattle.std.proofs.lemmas.Bool.{and_parts, false≢true, leb-true}
use Rattle.std.proofs.lemmas.List.{append_assoc, get_or_default, length-append, length-map}
use Rattle.std.proofs.lemmas.Option.{none-some, same_Some}
use Rattle.agreement.specs.MasterState.{MasterState, refusal}
use Rattle.machine.specs.Ballots.{max_ballot}
use Rattle.agreement.specs.MasterState.AssignRefusal.{bad_members, ballots_spent}
use Rattle.ballot_base.specs.declared.config.Config.{Config}
use Rattle.ballot_base.specs.LawfulConfig.{are_rising, is_lawful}
use Rattle.ballot_base.specs.Service.{max_places}
use Rattle.broker_spec.specs.Commands.{past_from, past_of, usual_limits}
use Rattle.broker_spec.specs.Sessions.{clean_session_of}
use Rattle.broker_spec.specs.Place.{Client}
use Rattle.recovery.specs.replicas.Deliveries.{asked_and_answered, recovery_messages}
use Rattle.world_nodes.proofs.of_recoveries.WelcomedKept.{welcomed_are_kept}
use Rattle.recovery.specs.replicas.Lengths.{RecoveriesAreShort}
use Rattle.world_base.specs.node_core.Core.{CountedCore}
use Rattle.world_nodes.specs.RecoveryChecks.{whole_log_in, whole_log_of, welcomes_back}
use Rattle.world_nodes.specs.RunningNodes.{is_running, numbered_node}
use Rattle.world_nodes.specs.Nodes.{NodesState}
use Rattle.world_pipes.specs.declared.events.event.Event.{Event}
use Rattle.world_pipes.specs.declared.events.event.Event.TheVariants as events
use Rattle.world_pipes.specs.declared.clients.world_client.WorldClient.{WorldClient}
use Rattle.master.proofs.Counting.{get_there}
use Rattle.world.specs.Recovery.{CanEscape, configuration_of, log_length_of}
use Rattle.world_pipes.specs.clients.Clients.{is_named}
use Rattle.world_pipes.specs.events.EscapeEvents.{answer_events, client_events, leaving}
use Rattle.world.specs.Inside.RecoveryEvents.{IsFetchedFrom, escaping_events, group_events, sent_then}
use Rattle.world.specs.World.{WorldState}
use Rattle.world.proofs.StandsThere.{core_found}

-- ---- how many events there are

leaving_few : (holds : Bool) (name : List ℕ) → length (leaving holds name) ≤ 1
leaving_few true name = omega arith
leaving_few false name = omega arith

pub short_pair : RecoveriesAreShort → (w : WorldState) (members : List ℕ) (place : ℕ) (holds : Bool) (name : List ℕ) (bytes : ℕ) → 1 ≤ length members →
    length (escaping_events w members place holds name bytes) ≤ 6 * length members + 5
short_pair short w members place holds name bytes some =
    let o : ℕ = length members - 1 in
    let number : ℕ = suc (length w.connections) in
    let numbers : List ℕ = recovery_messages (length w.nodes.sent) (length w.nodes.master.members) place (length members - 1) in
    let answered : List ℕ = asked_and_answered (sent_then w (length members - 1)) (length members - 1) in
    let last : List Event = events.CarryDown (suc (length w.connections)) 4 ∷ [] in
    let opening : List Event = events.Open name (configuration_of members).primary ∷ events.CarryUp (suc (length w.connections)) bytes ∷ [] in
    let first = length-map numbers events.Deliver in
    let few = (short (length w.nodes.sent) (length w.nodes.master.members) place (length members - 1)).0 in
    let second = length-map answered events.Deliver in
    let two = (short (sent_then w (length members - 1)) 0 0 (length members - 1)).1 in
    let left = leaving_few holds name in
    let whole = length-append (group_events w members place) ((leaving holds name ++ opening) ++ (map events.Deliver answered ++ last)) in
    let tail = length-append (leaving holds name ++ opening) (map events.Deliver answered ++ last) in
    let begin = length-append (leaving holds name) opening in
    let end = length-append (map events.Deliver answered) last in
    omega (arith, some, first, few, second, two, left, whole, tail, begin, end)

-- ---- a configuration that is given has members

pub lawful_given : (m : MasterState) (config : Config) → refusal m config ≡ None → is_lawful m.greatest config.members config.primary ≡ true
lawful_given m config = by (is_lawful m.greatest config.members config.primary) (nat_le max_ballot m.given) refl
  where
    by : (l t : Bool) → is_lawful m.greatest config.members config.primary ≡ l →
        (if l then (if t then Some ballots_spent else None) else Some bad_members) ≡ None → is_lawful m.greatest config.members config.primary ≡ true
    by true t e h = e
    by false t e h = cc

pub some_members : (m : MasterState) (config : Config) → refusal m config ≡ None → (1 ≤ length config.members) × (length config.members ≤ 7)
some_members m config granted =
    let all = and_parts (are_rising m.greatest 0 config.members) (nat_le 1 (length config.members) && (nat_le (length config.members) 7 && list_any (λ (member : ℕ). member == config.primary) config.members)) (lawful_given m config granted) in
    let one = and_parts (nat_le 1 (length config.members)) (nat_le (length config.members) 7 && list_any (λ (member : ℕ). member == config.primary) config.members) all.1 in
    let most = and_parts (nat_le (length config.members) 7) (list_any (λ (member : ℕ). member == config.primary) config.members) one.1 in
    (leb-true 1 (length config.members) one.0, leb-true (length config.members) 7 most.0)

-- ---- all that is asked for

abbrev pub can_escape : (members : List ℕ) (name : Client) (w : WorldState) → refusal w.nodes.master (configuration_of members) ≡ None →
    list_all (is_running w.nodes.nodes) members ≡ true → (place source : ℕ) → IsFetchedFrom w place source → (at : ℕ) (found : WorldClient) →
    position (is_named name) w.clients ≡ Some at → slice_get w.clients at ≡ Some found →
    clean_session_of (past_of usual_limits (whole_log_of w.nodes source)) found.piped.core.state.client ≡ Some false → CanEscape members name w
can_escape members name w granted live place source fetched at found first stands session =
    record {
      granted = granted;
      live = live;
      index = place;
      first = fetched.first;
      source = source;
      asked = fetched.asked;
      room = fetched.room;
      core = found.piped.core;
      client = core_found name w.clients at found first stands;
      session = session;
    }

-- ---- a configuration by its members

pub configured : (members : List ℕ) (config : Config) → config.members ≡ members → config.primary ≡ (configuration_of members).primary → config ≡ configuration_of members
configured [] config same first =
    ap (λ (ms : List ℕ). let c : Config = record { members = ms; primary = config.primary } in c) same
    ∙ ap (λ (p : ℕ). let c : Config = record { members = []; primary = p } in c) first
configured (x ∷ xs) config same first =
    ap (λ (ms : List ℕ). let c : Config = record { members = ms; primary = config.primary } in c) same
    ∙ ap (λ (p : ℕ). let c : Config = record { members = x ∷ xs; primary = p } in c) first

-- ---- the session of a client after a log

kept_in : (n : NodesState) (node : ℕ) (client : Client) (has : Bool) → has ≡ welcomes_back client (whole_log_of n node) →
    (has ≡ true → clean_session_of (past_of usual_limits (whole_log_of n node)) client ≡ Some false)
    × (has ≡ false → clean_session_of (past_of usual_limits (whole_log_of n node)) client ≡ Some false → ⊥)
kept_in n node client has is = (
  λ yes. (welcomed_are_kept client (whole_log_of n node)).0 (sym is ∙ yes),
  λ off session. false≢true (sym off ∙ is ∙ (welcomed_are_kept client (whole_log_of n node)).1 session),
)

none_kept : (n : NodesState) (node : ℕ) (client : Client) (has : Bool) → numbered_node n.nodes node ≡ None → has ≡ false →
    (has ≡ true → clean_session_of (past_of usual_limits (whole_log_of n node)) client ≡ Some false)
    × (has ≡ false → clean_session_of (past_of usual_limits (whole_log_of n node)) client ≡ Some false → ⊥)
unfolding clean_session_of past_from
none_kept n node client has none off = (
  λ yes. absurd (false≢true (sym off ∙ yes)),
  λ _ session. none-some false (sym (ap (λ (o : Option CountedCore). clean_session_of (past_of usual_limits (whole_log_in n.archive o)) client) none) ∙ session),
)

pub session_told : {E : Type 0} (n : NodesState) (node : ℕ) (client : Client) (result : Result Bool E) →
    ((core : CountedCore) → numbered_node n.nodes node ≡ Some core → IfOk result (λ has. has ≡ welcomes_back client (whole_log_of n node))) →
    (numbered_node n.nodes node ≡ None → IfOk result (λ has. has ≡ false)) →
    IfOk result (λ has. (has ≡ true → clean_session_of (past_of usual_limits (whole_log_of n node)) client ≡ Some false)
    × (has ≡ false → clean_session_of (past_of usual_limits (whole_log_of n node)) client ≡ Some false → ⊥))
session_told n node client (Err cause) told unknown = tt
session_told n node client (Ok has) told unknown = by (numbered_node n.nodes node) refl
  where
    by : (o : Option CountedCore) → numbered_node n.nodes node ≡ o →
        (has ≡ true → clean_session_of (past_of usual_limits (whole_log_of n node)) client ≡ Some false)
        × (has ≡ false → clean_session_of (past_of usual_limits (whole_log_of n node)) client ≡ Some false → ⊥)
    by None e = none_kept n node client has e (unknown e)
    by (Some core) e = kept_in n node client has (told core e)

pub session_yes : {E : Type 0} (P Q : Bool → Type 0) (result : Result Bool E) → IfOk result (λ has. P has × Q has) → IfOk result P
session_yes P Q (Err cause) both = tt
session_yes P Q (Ok has) both = both.0

pub session_no : {E : Type 0} (P Q : Bool → Type 0) (result : Result Bool E) → IfOk result (λ has. P has × Q has) → IfOk result Q
session_no P Q (Err cause) both = tt
session_no P Q (Ok has) both = both.1

-- ---- the member whose log is fetched

pub fetched_here : (w : WorldState) (members : List ℕ) (place held : ℕ) → members ≡ w.nodes.master.members → place < length members →
    position (is_running w.nodes.nodes) w.nodes.master.members ≡ Some place → held ≡ log_length_of (numbered_node w.nodes.nodes (get_or members place 0)) → held + 2 ≤ max_places →
    IsFetchedFrom w place (get_or members place 0)
fetched_here w members place held same below first is room =
    record {
      first = first;
      asked = ap (λ (l : List ℕ). slice_get l place) (sym same) ∙ get_there members place (get_or members place 0) below (get_or_default members place 0 (get_or members place 0) below);
      room = subst (λ (k : ℕ). k + 2 ≤ max_places) is room;
    }

pub fetched_nowhere : (w : WorldState) (members : List ℕ) (place held : ℕ) → members ≡ w.nodes.master.members → place < length members →
    position (is_running w.nodes.nodes) w.nodes.master.members ≡ Some place → held ≡ log_length_of (numbered_node w.nodes.nodes (get_or members place 0)) → max_places < held + 2 →
    (other source : ℕ) → IsFetchedFrom w other source → ⊥
fetched_nowhere w members place held same below first is full other source f =
    let here : other ≡ place = same_Some other place (sym f.first ∙ first) in
    let there : get_or members place 0 ≡ source =
    same_Some (get_or members place 0) source (sym (get_there members place (get_or members place 0) below (get_or_default members place 0 (get_or members place 0) below))
    ∙ ap (λ (l : List ℕ). slice_get l place) same ∙ ap (slice_get w.nodes.master.members) (sym here) ∙ f.asked) in
    let room : held + 2 ≤ max_places = subst (λ (k : ℕ). k + 2 ≤ max_places) (sym (is ∙ ap (λ (m : ℕ). log_length_of (numbered_node w.nodes.nodes m)) there)) f.room in
    omega (arith, room, full)

-- ---- the list, piece by piece

abbrev pieces : (sent members place others : ℕ) (config : Config) (holds : Bool) (name : List ℕ) (bytes number later : ℕ) → List Event
pieces sent members place others config holds name bytes number later =
    (events.Assign config ∷ map events.Deliver (recovery_messages sent members place others)) ++ (client_events holds name config.primary number bytes ++ answer_events later others number)

pub whole_pair : (w : WorldState) (config : Config) (holds : Bool) (name : List ℕ) (sent members place others bytes number later : ℕ) (none group client whole : List Event) → none ≡ [] →
    group ≡ none ++ events.Assign config ∷ map events.Deliver (recovery_messages sent members place (length config.members - 1)) →
    client ≡ group ++ client_events holds name config.primary number bytes → whole ≡ client ++ answer_events later others number →
    config ≡ configuration_of config.members → sent ≡ length w.nodes.sent → members ≡ length w.nodes.master.members → others ≡ length config.members - 1 →
    number ≡ suc (length w.connections) → later ≡ sent_then w (length config.members - 1) → whole ≡ escaping_events w config.members place holds name bytes
whole_pair w config holds name sent members place others bytes number later none group client whole empty first second third given s m o n t =
    third ∙ ap (λ (l : List Event). l ++ answer_events later others number) (second ∙ ap (λ (l : List Event). l ++ client_events holds name config.primary number bytes)
    (first ∙ ap (λ (l : List Event). l ++ events.Assign config ∷ map events.Deliver (recovery_messages sent members place (length config.members - 1))) empty))
    ∙ append_assoc (events.Assign config ∷ map events.Deliver (recovery_messages sent members place (length config.members - 1))) (client_events holds name config.primary number bytes) (answer_events later others number)
    ∙ ap (λ (k : ℕ). (events.Assign config ∷ map events.Deliver (recovery_messages sent members place (length config.members - 1))) ++ (client_events holds name config.primary number bytes ++ answer_events later k number)) o
    ∙ ap (λ (k : ℕ). pieces k members place (length config.members - 1) config holds name bytes number later) s
    ∙ ap (λ (k : ℕ). pieces (length w.nodes.sent) k place (length config.members - 1) config holds name bytes number later) m
    ∙ ap (λ (k : ℕ). pieces (length w.nodes.sent) (length w.nodes.master.members) place (length config.members - 1) config holds name bytes k later) n
    ∙ ap (λ (k : ℕ). pieces (length w.nodes.sent) (length w.nodes.master.members) place (length config.members - 1) config holds name bytes (suc (length w.connections)) k) t
    ∙ ap (λ (p : Config). pieces (length w.nodes.sent) (length w.nodes.master.members) place (length config.members - 1) p holds name bytes (suc (length w.connections)) (sent_then w (length config.members - 1))) given

pub its_members : (members : List ℕ) (config : Config) → config ≡ configuration_of members → config.members ≡ members
its_members [] config is = ap (λ (c : Config). c.members) is
its_members (x ∷ xs) config is = ap (λ (c : Config). c.members) is
