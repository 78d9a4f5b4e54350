-- A connection that is closed after a move was closed before, or got a prefix of what the move
-- sends to it.
use Rattle.std.proofs.Common.{◌≡◌, ◌⊎◌, inl, inr, ℕ, Bool, true, false, not, ◌&&◌, ◌||◌, ◌==◌, if◌then◌else◌, List, [], ◌∷◌, ◌++◌, Option, Some, None, refl, sym, ap, ◌∙◌, subst, filter, map, length}
use Rattle.std.specs.List.{find, list_any}
use Rattle.std.proofs.lemmas.List.{append-nil}
use Rattle.std.proofs.lemmas.Bool.{both_ways}
use Rattle.broker_spec.specs.Connection.{ConnectionName, is_connection_name}
use Rattle.exactly_once.specs.Sends.{sends_to}
use Rattle.world_base.specs.declared.node_connections.port.Port.{Port}
use Rattle.world_base.specs.declared.node_connections.connection.Connection.{Connection}
use Rattle.world_base.specs.node_connections.Connections.{fresh, has_failed, is_at, is_failed, is_listed, is_closed}
use Rattle.world_base.specs.node_connections.ConnectionChanges.{noted_proposed, closed_connection, nothing_pending, with_unread, left_with, changed_where}
use Rattle.world_base.specs.declared.node_connections.connection.ConnectionStage.{ConnectionStage}
use Rattle.world_base.specs.declared.node_connections.connection.ConnectionStage.TheVariants.{Awaits, Proposed, Closed, Failed}
use Rattle.world_base.specs.node_core.FailedConnections.{closes_failed}
use Rattle.world_base.specs.node_core.Core.{CoreState, StepOutcome, serves}
use Rattle.world_base.specs.node_core.PortOutput.{hands_over, left_by}
use Rattle.world_base.specs.node_core.PacketInput.{changes}
use Rattle.world_base.specs.node_core.Step.{next_name, with_next_connection, settled}
use Rattle.headline.specs.node_moves.Closed.{IsExactlyClosedBy, NothingOnClosed, listed_named, exact_refusal}
use Rattle.headline.specs.node_moves.Closed.IsExactlyClosedBy.{was_closed, closes_now}
use Rattle.headline.specs.node_moves.Ends.{IsOrderly}
use Rattle.headline.specs.node_moves.Moves.{NodeMove}
use Rattle.headline.specs.node_moves.Moves.NodeMove.{hears, opens_one, holds, reads_first, reads_later, closes, refuses, loses_one, loses_next, expels_one, cuts_log, crashes, settles, hands}
use Rattle.headline.specs.node_moves.Puts.{move_effects, outputs_of, spelled}
use Rattle.headline.proofs.of_node_moves.Views.{one_changed, one_mapped, same_some, view, view_of_changed, view_of_others}
use Rattle.headline.proofs.of_node_moves.Kept.{live, named, named_kept, stays_failed}
use Rattle.headline.proofs.of_node_moves.Shut.{Shuts, all, found_filtered, found_mapped, listed_open, shuts_closed, shuts_joined, shuts_same, shuts_tested}
use Rattle.headline.proofs.of_node_moves.Shut.Shuts.{nobody, stays_open, is_shut, was_shut}
use Rattle.headline.proofs.of_node_moves.ShutByOutputs.{driven_shuts}
use Rattle.headline.proofs.of_node_moves.ShutByChanges.{asked_shuts, at_orderly, at_replica, at_shuts, after_shuts, holding_shuts, left_shuts, refused_shuts, with_room}

pub over_if : (b : Bool) → not b ≡ false → b ≡ true
over_if true e = refl
over_if false e = cc

pub open_if : (b : Bool) → not b ≡ true → b ≡ false
open_if true e = cc
open_if false e = refl

-- what a move queues for a name
abbrev pub sent_in : ConnectionName → {core : CoreState} {outcome : StepOutcome} → NodeMove core outcome → List ℕ
sent_in x m = spelled (exact_refusal x m ++ sends_to x (outputs_of (move_effects m)))

-- from what happens to a connection to how it came to be closed
closed_by : (x : ConnectionName) (core : CoreState) (outcome : StepOutcome) (m : NodeMove core outcome) (d : Connection) (o p : Option Connection) → Shuts (sent_in x m) o p
    → listed_named x core ≡ o → p ≡ Some d → is_closed d.stage ≡ true → IsExactlyClosedBy x m d
closed_by x core outcome m d o None nobody before after over = cc
closed_by x core outcome m d None (Some e) shuts before after over = elim shuts [ ]
closed_by x core outcome m d (Some c) (Some e) (stays_open a b pending) before after over =
    let same = same_some e d after in absurd (both_ways (is_closed d.stage) (open_if (is_closed d.stage) (sym (ap live same) ∙ b)) over)
closed_by x core outcome m d (Some c) (Some e) (is_shut front a b pending short) before after over =
    closes_now c front (listed_open x core.connections c before a) (sym (ap (λ (z : Connection). z.pending) (same_some e d after)) ∙ pending) short
closed_by x core outcome m d (Some c) (Some e) (was_shut a b pending) before after over =
    was_closed c before (over_if (is_closed c.stage) a) (sym (ap (λ (z : Connection). z.pending) (same_some e d after)) ∙ pending)

-- ---- a connection that is opened

pub found_pushed : (test : Connection → Bool) (cs : List Connection) (z d : Connection) → find test (cs ++ z ∷ []) ≡ Some d → (find test cs ≡ Some d) ⊎ (d ≡ z)
found_pushed test [] z d e = by (test z) e
  where
    by : (b : Bool) → (if b then Some z else None) ≡ Some d → (find test [] ≡ Some d) ⊎ (d ≡ z)
    by true f = inr (sym (same_some z d f))
    by false f = cc
found_pushed test (c ∷ cs) z d e = by (test c) (found_pushed test cs z d) e
  where
    by : (b : Bool) → (find test (cs ++ z ∷ []) ≡ Some d → (find test cs ≡ Some d) ⊎ (d ≡ z)) → (if b then Some c else find test (cs ++ z ∷ [])) ≡ Some d
        → ((if b then Some c else find test cs) ≡ Some d) ⊎ (d ≡ z)
    by true ih f = inl f
    by false ih f = ih f

opened_closed : (x : ConnectionName) (port : Port) (core : CoreState) (d : Connection) → listed_named x (with_next_connection port core) ≡ Some d → is_closed d.stage ≡ true
    → listed_named x core ≡ Some d
unfolding with_next_connection
opened_closed x port core d e over =
    by ((serves core && not (list_any (is_at port) core.connections)) && is_connection_name (next_name core)) e
  where
    old : (view all (named x) core.connections ≡ Some d) ⊎ (d ≡ fresh port (next_name core)) → listed_named x core ≡ Some d
    old (inl f) = f
    old (inr f) = let g = ap (λ (z : Connection). is_closed z.stage) f in cc

    by : (b : Bool) → listed_named x (let k : CoreState = if b then record core { last_name = next_name core; connections = core.connections ++ fresh port (next_name core) ∷ [] } else core in k) ≡ Some d
        → listed_named x core ≡ Some d
    by true f = old (found_pushed (named x) core.connections (fresh port (next_name core)) d f)
    by false f = f

-- ---- all connections are closed, or those that are done are removed

settled_closed : (x : ConnectionName) (core : CoreState) (d : Connection) → IsOrderly core → listed_named x (settled core) ≡ Some d → is_closed d.stage ≡ true
    → IsExactlyClosedBy x (let m : NodeMove core _ = settles in m) d
unfolding settled
settled_closed x core d o e over = by (serves core) e
  where
    mapped : (c : Connection) → view all (named x) core.connections ≡ Some c → d ≡ closed_connection c → (b : Bool) → live c ≡ b → IsExactlyClosedBy x (let m : NodeMove core _ = settles in m) d
    mapped c there is true lives =
        closes_now c [] (listed_open x core.connections c there lives) (ap (λ (z : Connection). z.pending) is ∙ sym (append-nil c.pending)) (record { rest = []; is = refl })
    mapped c there is false dead = was_closed c there (over_if (is_closed c.stage) dead) (ap (λ (z : Connection). z.pending) is)

    by : (b : Bool) → view all (named x) (filter is_listed (if b then core.connections else map closed_connection core.connections)) ≡ Some d
        → IsExactlyClosedBy x (let m : NodeMove core _ = settles in m) d
    by true f = was_closed d (found_filtered x is_listed core.connections d (o.names x) f).0 over refl
    by false f =
        let g = found_filtered x is_listed (map closed_connection core.connections) d (one_mapped (named x) closed_connection core.connections (λ z. refl) (o.names x)) f in
        let h = found_mapped x core.connections d g.0 in
        mapped h.0 h.1 h.2 (live h.0) refl

handed_closed : (x : ConnectionName) (port : Port) (core : CoreState) (d : Connection) → IsOrderly core → listed_named x (hands_over port core) ≡ Some d
    → is_closed d.stage ≡ true → listed_named x core ≡ Some d
unfolding hands_over
handed_closed x port core d o e over = by (find (is_at port) core.connections) refl e
  where
    done : (c : Connection) → d ≡ nothing_pending c → is_listed d ≡ true → ⊥
    done c is listed =
        let p : d.pending ≡ [] = ap (λ (z : Connection). z.pending) is in
        both_ways (is_listed d) (rest (is_closed d.stage) d.pending over p) listed
      where
        rest : (b : Bool) (bytes : List ℕ) → b ≡ true → bytes ≡ [] → (not b || not (length bytes == 0)) ≡ false
        rest b bytes f g = rw (f, g) refl

    on : (c : Connection) → find (is_at port) core.connections ≡ Some c → (b : Bool) → named x c ≡ b
        → (view all (named x) (changed_where (is_at port) nothing_pending core.connections) ≡ Some d) × (is_listed d ≡ true) → view all (named x) core.connections ≡ Some d
    on c found true is (f, listed) =
        let two = view_of_changed all (named x) (is_at port) nothing_pending core.connections c (o.names x) (λ z t. refl) (named_kept x nothing_pending (λ z. refl)) found is in
        absurd (done c (sym (same_some (nothing_pending c) d (sym two.1 ∙ f))) listed)
    on c found false other (f, listed) =
        sym (view_of_others all (named x) (is_at port) nothing_pending core.connections c (named_kept x nothing_pending (λ z. refl)) found other) ∙ f

    by : (q : Option Connection) → find (is_at port) core.connections ≡ q → listed_named x (left_by port core q) ≡ Some d → listed_named x core ≡ Some d
    by None found f = f
    by (Some c) found f =
        on c found (named x c) refl
        (found_filtered x is_listed (changed_where (is_at port) nothing_pending core.connections) d
        (one_changed (named x) (is_at port) nothing_pending core.connections (λ z. refl) (o.names x)) f)

-- ---- the law

-- one that failed is closed
pub failed_dead : (c : Connection) → has_failed c ≡ true → live c ≡ false
failed_dead c failed = by c.stage failed
  where
    by : (s : ConnectionStage) → is_failed s ≡ true → not (is_closed s) ≡ false
    by Awaits e = cc
    by Proposed e = cc
    by Closed e = cc
    by Failed e = refl

-- a move that opens nothing, and does not settle or hand over
abbrev pub Changes : {core : CoreState} {outcome : StepOutcome} → NodeMove core outcome → Type 0
Changes (opens_one port) = ⊥
Changes settles = ⊥
Changes (hands port) = ⊥
Changes _ = Unit {0}

-- changes the connection of a name, if there is one
pub move_shuts : (core : CoreState) (outcome : StepOutcome) (m : NodeMove core outcome) → IsOrderly core → (x : ConnectionName) → Changes m
    → Shuts (sent_in x m) (listed_named x core) (listed_named x outcome.core)
move_shuts core outcome (hears input other) o x may = driven_shuts x input core o
move_shuts core outcome (holds port piece) o x may = at_shuts x port (with_unread piece) core o (λ z. refl) (holding_shuts piece)
move_shuts core outcome (reads_first now port c connect rest at first is room) o x may =
    let left : CoreState = changes port (left_with now rest) core in
    let ordered = at_orderly port (left_with now rest) core o (λ z. refl) in
    with_room x _ core (changes port (noted_proposed connect.keep_alive) left) room
    (after_shuts x _ core (changes port (noted_proposed connect.keep_alive) left)
    (shuts_joined (at_shuts x port (left_with now rest) core o (λ z. refl) (left_shuts now rest)) (at_shuts x port (noted_proposed connect.keep_alive) left ordered (λ z. refl) (asked_shuts connect.keep_alive)))
    (at_orderly port (noted_proposed connect.keep_alive) left ordered (λ z. refl)) (at_replica port (noted_proposed connect.keep_alive) left ∙ at_replica port (left_with now rest) core))
move_shuts core outcome (reads_later now port c packet rest at later is room) o x may =
    with_room x _ core (changes port (left_with now rest) core) room
    (after_shuts x _ core (changes port (left_with now rest) core) (at_shuts x port (left_with now rest) core o (λ z. refl) (left_shuts now rest))
    (at_orderly port (left_with now rest) core o (λ z. refl)) (at_replica port (left_with now rest) core))
move_shuts core outcome (closes port) o x may = at_shuts x port closed_connection core o (λ z. refl) (λ z lives. shuts_closed z)
move_shuts core outcome (refuses port c code at first is) o x may =
    subst (λ l. Shuts (spelled l) (listed_named x core) (listed_named x outcome.core)) (sym (append-nil (exact_refusal x {core = core} (refuses port c code at first is))))
    (refused_shuts x port c code core o at)
move_shuts core outcome (loses_one port c at asked_before) o x may =
    after_shuts x _ core (changes port closed_connection core) (at_shuts x port closed_connection core o (λ z. refl) (λ z lives. shuts_closed z))
    (at_orderly port closed_connection core o (λ z. refl)) (at_replica port closed_connection core)
move_shuts core outcome (loses_next c at) o x may =
    after_shuts x _ core (closes_failed core)
    (shuts_tested x has_failed closed_connection core.connections (o.names x) (λ z. refl) (λ z failed. was_shut (failed_dead z failed) refl refl)) (stays_failed core o).orderly refl
move_shuts core outcome (expels_one client) o x may = after_shuts x _ core core (shuts_same (listed_named x core)) o refl
move_shuts core outcome (cuts_log can) o x may = shuts_same (listed_named x core)
move_shuts core outcome crashes o x may = shuts_same (listed_named x core)
move_shuts core outcome (opens_one port) o x may = absurd may
move_shuts core outcome settles o x may = absurd may
move_shuts core outcome (hands port) o x may = absurd may

changed_closed : (core : CoreState) (outcome : StepOutcome) (m : NodeMove core outcome) → IsOrderly core → (x : ConnectionName) (d : Connection) → Changes m →
    listed_named x outcome.core ≡ Some d → is_closed d.stage ≡ true → IsExactlyClosedBy x m d
changed_closed core outcome m o x d may there over =
    closed_by x core outcome m d (listed_named x core) (listed_named x outcome.core) (move_shuts core outcome m o x may) refl there over

pub nothing_on_closed : NothingOnClosed
nothing_on_closed core outcome (opens_one port) o x d there over = was_closed d (opened_closed x port core d there over) over refl
nothing_on_closed core outcome settles o x d there over = settled_closed x core d o there over
nothing_on_closed core outcome (hands port) o x d there over = was_closed d (handed_closed x port core d o there over) over refl
nothing_on_closed core outcome (hears input other) o x d there over = changed_closed core outcome (hears input other) o x d tt there over
nothing_on_closed core outcome (holds port piece) o x d there over = changed_closed core outcome (holds port piece) o x d tt there over
nothing_on_closed core outcome (reads_first now port c connect rest at first is room) o x d there over =
    changed_closed core outcome (reads_first now port c connect rest at first is room) o x d tt there over
nothing_on_closed core outcome (reads_later now port c packet rest at later is room) o x d there over =
    changed_closed core outcome (reads_later now port c packet rest at later is room) o x d tt there over
nothing_on_closed core outcome (closes port) o x d there over = changed_closed core outcome (closes port) o x d tt there over
nothing_on_closed core outcome (refuses port c code at first is) o x d there over = changed_closed core outcome (refuses port c code at first is) o x d tt there over
nothing_on_closed core outcome (loses_one port c at asked_before) o x d there over =
    changed_closed core outcome (loses_one port c at asked_before) o x d tt there over
nothing_on_closed core outcome (loses_next c at) o x d there over = changed_closed core outcome (loses_next c at) o x d tt there over
nothing_on_closed core outcome (expels_one client) o x d there over = changed_closed core outcome (expels_one client) o x d tt there over
nothing_on_closed core outcome (cuts_log can) o x d there over = changed_closed core outcome (cuts_log can) o x d tt there over
nothing_on_closed core outcome crashes o x d there over = changed_closed core outcome crashes o x d tt there over
