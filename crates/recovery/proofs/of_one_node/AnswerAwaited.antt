-- A connection that waits for its answer waits on, while other messages come and bytes are handed over.
use Rattle.std.proofs.Common.{◌≡◌, ℕ, Bool, true, false, if◌then◌else◌, not, List, [], ◌∷◌, ◌++◌, filter, length, map, Option, Some, None, refl, sym, ap, ◌∙◌, subst}
use Rattle.std.specs.Prelude.{◌&&◌, ◌||◌, ◌==◌}
use Rattle.std.specs.List.{find, list_any}
use Rattle.std.proofs.lemmas.Bool.{and_parts, and_right, eq-eqb, or_parts}
use Rattle.ballot_base.specs.Replica.{is_active}
use Rattle.broker_spec.specs.Connection.{ConnectionName, same_connection}
use Rattle.world_base.specs.declared.node_connections.connection.Connection.{Connection}
use Rattle.world_base.specs.declared.node_core.item.Item.TheVariants.{Peer}
use Rattle.world_base.specs.declared.node_connections.port.Port.{Port}
use Rattle.world_base.specs.node_connections.Connections.{fresh, is_at, is_listed, is_open_at, is_open_named, is_closed}
use Rattle.world_base.specs.node_connections.ConnectionChanges.{changed_where, closed_connection, nothing_pending}
use Rattle.world_base.specs.node_core.Core.{CoreState, StepOutcome, serves}
use Rattle.world_base.specs.node_core.FailedConnections.{reports_all_failed}
use Rattle.world_base.specs.node_core.PortOutput.{hands_over, left_by, listed_at}
use Rattle.world_base.specs.node_core.Step.{node_step, settled}
use Rattle.headline.proofs.of_node_moves.Views.{found_passes}
use Rattle.recovery.specs.one_node.Delivery.{heard_by}
use Rattle.recovery.specs.one_node.ConnectRequest.{asked_now, proposal_at}
use Rattle.recovery.specs.one_node.Opening.{first_name_of_node}
use Rattle.recovery.specs.one_node.AwaitedAnswer.{AskedAwaitsAnswer, AwaitsAnswer, AwaitsConnect, FirstAwaitsConnect, HandingKeepsItWaiting, HandingKeepsTheConnect, MessagesKeepItWaiting}
use Rattle.recovery.proofs.of_one_node.AnswerPutOut.{found_both}
use Rattle.recovery.proofs.of_one_node.OneDelivery.{calm_finds, drives_silently, none_lost, with_replica}

-- ---- lists

-- what is found is found among those that are kept, if it is kept
found_kept : (test keep : Connection → Bool) (cs : List Connection) (c : Connection) → keep c ≡ true → find test cs ≡ Some c → find test (filter keep cs) ≡ Some c
found_kept test keep [] c kept found = cc
found_kept test keep (d ∷ cs) c kept found = by (test d) refl (keep d) refl found (found_kept test keep cs c kept)
  where
    some_is : (let o : Option Connection = Some d in o) ≡ Some c → d ≡ c
    some_is e = cc

    by : (t : Bool) → test d ≡ t → (k : Bool) → keep d ≡ k → (if t then Some d else find test cs) ≡ Some c → (find test cs ≡ Some c → find test (filter keep cs) ≡ Some c) →
        find test (if k then d ∷ filter keep cs else filter keep cs) ≡ Some c
    by true e true g f rest = ap (λ (b : Bool). if b then Some d else find test (filter keep cs)) e ∙ f
    by true e false g f rest = absurd (never (sym (ap keep (some_is f)) ∙ g))
      where
        never : keep c ≡ false → ⊥
        never h = let k = kept in cc
    by false e true g f rest = ap (λ (b : Bool). if b then Some d else find test (filter keep cs)) e ∙ rest f
    by false e false g f rest = rest f

-- and after a change that keeps the test, and leaves it as it is
found_changed : (test which : Connection → Bool) (change : Connection → Connection) (cs : List Connection) (c : Connection) → ((d : Connection) → test (change d) ≡ test d) →
    change c ≡ c → find test cs ≡ Some c → find test (changed_where which change cs) ≡ Some c
found_changed test which change [] c keeps same found = cc
found_changed test which change (d ∷ cs) c keeps same found = by (which d) (test d) refl found (found_changed test which change cs c keeps same)
  where
    some_is : (let o : Option Connection = Some d in o) ≡ Some c → d ≡ c
    some_is e = cc

    by : (w t : Bool) → test d ≡ t → (if t then Some d else find test cs) ≡ Some c → (find test cs ≡ Some c → find test (changed_where which change cs) ≡ Some c) →
        find test (if w then change d ∷ cs else d ∷ changed_where which change cs) ≡ Some c
    by true true e f rest = ap (λ (b : Bool). if b then Some (change d) else find test cs) (keeps d ∙ e) ∙ ap (λ (x : Connection). Some (change x)) (some_is f) ∙ ap (λ (x : Connection). Some x) same
    by true false e f rest = ap (λ (b : Bool). if b then Some (change d) else find test cs) (keeps d ∙ e) ∙ f
    by false true e f rest = ap (λ (b : Bool). if b then Some d else find test (changed_where which change cs)) e ∙ f
    by false false e f rest = ap (λ (b : Bool). if b then Some d else find test (changed_where which change cs)) e ∙ rest f

-- ---- what waits is open, so it is listed

listed_open : (x : ConnectionName) (c : Connection) → is_open_named x c ≡ true → is_listed c ≡ true
listed_open x c e = ap (λ (b : Bool). b || not (length c.pending == 0)) (and_parts (not (is_closed c.stage)) (same_connection c.name x) e).0

waits_listed : (port : Port) (x : ConnectionName) (core : CoreState) (cs : List Connection) (c : Connection) → find (is_at port) cs ≡ Some c → find (is_open_named x) cs ≡ Some c →
    c.pending ≡ [] → AwaitsAnswer port x (record core { connections = filter is_listed cs })
waits_listed port x core cs c listed named none =
    let open_now = listed_open x c (found_passes (is_open_named x) cs c named) in
    record {
      connection = c;
      listed = found_kept (is_at port) is_listed cs c open_now listed;
      named = found_kept (is_open_named x) is_listed cs c open_now named;
      none = none;
    }

-- ---- a message

settled_leads : (core : CoreState) → serves core ≡ true → settled core ≡ record core { connections = filter is_listed core.connections }
unfolding settled
settled_leads core leads = ap (λ (b : Bool). let k : CoreState = record core { connections = filter is_listed (if b then core.connections else map closed_connection core.connections) } in k) leads

both : (x y : Bool) → x ≡ true → y ≡ true → (x && y) ≡ true
both x y e f = rw (e, f) refl

pub messages_keep_it_waiting : MessagesKeepItWaiting
messages_keep_it_waiting port x core message waits calm runs silent active going =
    subst (AwaitsAnswer port x) (sym step)
    (waits_listed port x (with_replica (heard_by core message).state core) core.connections waits.connection waits.listed waits.named waits.none)
  where
    after : CoreState
    after = with_replica (heard_by core message).state core

    leads : serves after ≡ true
    leads = both (is_active (heard_by core message).state.role) (not (heard_by core message).state.stopped) active (ap not going)

    ending : StepOutcome → StepOutcome
    ending first = record { core = settled (reports_all_failed first.core).core; messages = first.messages ++ (reports_all_failed first.core).messages }

    step : (node_step (Peer message) core).core ≡ record after { connections = filter is_listed core.connections }
    step =
        ap (λ (t : StepOutcome). (ending t).core) (drives_silently core message runs silent)
        ∙ ap (λ (t : StepOutcome). settled t.core) (none_lost (length core.connections) after (calm_finds core.connections calm))
        ∙ settled_leads after leads

-- ---- bytes are handed over

handed_is : (c : Connection) → c.pending ≡ [] → nothing_pending c ≡ c
handed_is c none = ap (λ (l : List ℕ). let d : Connection = record c { pending = l } in d) (sym none)

pub handing_keeps_it_waiting : HandingKeepsItWaiting
unfolding hands_over
handing_keeps_it_waiting port other x core waits = by (listed_at other core)
  where
    by : (o : Option Connection) → AwaitsAnswer port x (left_by other core o)
    by None = record { connection = waits.connection; listed = waits.listed; named = waits.named; none = waits.none }
    by (Some d) =
        waits_listed port x core (changed_where (is_at other) nothing_pending core.connections) waits.connection
        (found_changed (is_at port) (is_at other) nothing_pending core.connections waits.connection (λ c. refl) (handed_is waits.connection waits.none) waits.listed)
        (found_changed (is_open_named x) (is_at other) nothing_pending core.connections waits.connection (λ c. refl) (handed_is waits.connection waits.none) waits.named) waits.none

pub handing_keeps_the_connect : HandingKeepsTheConnect
unfolding hands_over
handing_keeps_the_connect port other x core a = by (listed_at other core)
  where
    c : Connection
    c = a.waits.connection

    still : (test : Connection → Bool) → ((d : Connection) → test (nothing_pending d) ≡ test d) → find test core.connections ≡ Some c →
        find test (filter is_listed (changed_where (is_at other) nothing_pending core.connections)) ≡ Some c
    still test keeps found =
        found_kept test is_listed (changed_where (is_at other) nothing_pending core.connections) c (listed_open x c (found_passes (is_open_named x) core.connections c a.waits.named))
        (found_changed test (is_at other) nothing_pending core.connections c keeps (handed_is c a.waits.none) found)

    by : (o : Option Connection) → AwaitsConnect port x (left_by other core o)
    by None =
        record {
          waits = record { connection = c; listed = a.waits.listed; named = a.waits.named; none = a.waits.none };
          name = a.name;
          opened = a.opened;
          first = a.first;
          unread = a.unread;
        }
    by (Some d) =
        record {
          waits = record { connection = c; listed = still (is_at port) (λ e. refl) a.waits.listed; named = still (is_open_named x) (λ e. refl) a.waits.named; none = a.waits.none };
          name = a.name;
          opened = still (is_open_at port) (λ e. refl) a.opened;
          first = a.first;
          unread = a.unread;
        }

-- ---- the connection is opened, and its CONNECT comes

none_kept : (test keep : Connection → Bool) (cs : List Connection) → find test cs ≡ None → find test (filter keep cs) ≡ None
none_kept test keep [] none = refl
none_kept test keep (d ∷ cs) none = by (test d) refl (keep d) none (none_kept test keep cs)
  where
    by : (t : Bool) → test d ≡ t → (k : Bool) → (if t then Some d else find test cs) ≡ None → (find test cs ≡ None → find test (filter keep cs) ≡ None) →
        find test (if k then d ∷ filter keep cs else filter keep cs) ≡ None
    by true e k f rest = cc
    by false e true f rest = ap (λ (b : Bool). if b then Some d else find test (filter keep cs)) e ∙ rest f
    by false e false f rest = rest f

found_last : (test : Connection → Bool) (cs : List Connection) (c : Connection) → find test cs ≡ None → test c ≡ true → find test (cs ++ c ∷ []) ≡ Some c
found_last test [] c none e = ap (λ (b : Bool). if b then Some c else None) e
found_last test (d ∷ cs) c none e = by (test d) refl none (λ f. found_last test cs c f e)
  where
    by : (t : Bool) → test d ≡ t → (if t then Some d else find test cs) ≡ None → (find test cs ≡ None → find test (cs ++ c ∷ []) ≡ Some c) →
        (if test d then Some d else find test (cs ++ c ∷ [])) ≡ Some c
    by true f g rest = cc
    by false f g rest = ap (λ (b : Bool). if b then Some d else find test (cs ++ c ∷ [])) f ∙ rest g

none_there : (test : Connection → Bool) (cs : List Connection) → list_any test cs ≡ false → find test cs ≡ None
none_there test [] none = refl
none_there test (d ∷ cs) none =
    let z = or_parts (test d) (list_any test cs) none in ap (λ (b : Bool). if b then Some d else find test cs) z.0 ∙ none_there test cs z.1

none_open : (port : Port) (cs : List Connection) → list_any (is_at port) cs ≡ false → find (is_open_at port) cs ≡ None
none_open port [] none = refl
none_open port (d ∷ cs) none =
    let z = or_parts (is_at port d) (list_any (is_at port) cs) none in
    ap (λ (b : Bool). if b then Some d else find (is_open_at port) cs) (and_right (not (is_closed d.stage)) (is_at port d) z.0) ∙ none_open port cs z.1

named_self : (x : ConnectionName) → same_connection x x ≡ true
named_self x = both (x.ballot == x.ballot) (x.count == x.count) (eq-eqb x.ballot x.ballot refl) (eq-eqb x.count x.count refl)

pub first_awaits_connect : FirstAwaitsConnect
first_awaits_connect port core free unnamed =
    record {
      waits = record {
        connection = new;
        listed = found_last (is_at port) (filter is_listed core.connections) new (none_kept (is_at port) is_listed core.connections (none_there (is_at port) core.connections free)) here;
        named = found_last (is_open_named (first_name_of_node core)) (filter is_listed core.connections) new (none_kept (is_open_named (first_name_of_node core)) is_listed core.connections unnamed)
            (named_self (first_name_of_node core));
        none = refl;
      };
      name = refl;
      opened = found_last (is_open_at port) (filter is_listed core.connections) new (none_kept (is_open_at port) is_listed core.connections (none_open port core.connections free)) here;
      first = refl;
      unread = refl;
    }
  where
    new : Connection
    new = fresh port (first_name_of_node core)

    here : is_at port new ≡ true
    here = eq-eqb port.0 port.0 refl

pub asked_awaits_answer : AskedAwaitsAnswer
asked_awaits_answer port x core now connect command a =
    waits_listed port x (with_replica (proposal_at core command).state core) (changed_where (is_open_at port) change core.connections) (change c)
    (found_both (is_open_at port) (is_at port) change core.connections c is_open (found_passes (is_at port) core.connections c a.waits.listed)
    (found_passes (is_at port) core.connections c a.waits.listed) a.waits.listed a.opened)
    (found_both (is_open_at port) (is_open_named x) change core.connections c is_open (found_passes (is_open_named x) core.connections c a.waits.named) open_after a.waits.named a.opened) a.waits.none
  where
    c : Connection
    c = a.waits.connection

    change : Connection → Connection
    change = asked_now now connect.keep_alive

    is_open : is_open_at port c ≡ true
    is_open = found_passes (is_open_at port) core.connections c a.opened

    open_after : is_open_named x (change c) ≡ true
    open_after = (and_parts (not (is_closed c.stage)) (same_connection c.name x) (found_passes (is_open_named x) core.connections c a.waits.named)).1
