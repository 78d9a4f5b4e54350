-- A connection that is new after a move was opened in it, and has the next name of the ballot that
-- its node leads.
use Rattle.std.proofs.Common.{◌≡◌, ◌⊎◌, inl, inr, ℕ, Bool, true, false, not, ◌&&◌, if◌then◌else◌, List, [], ◌∷◌, ◌++◌, Option, Some, None, refl, sym, ap, ◌∙◌, filter, map}
use Rattle.std.specs.List.{find, list_any}
use Rattle.broker_spec.specs.Connection.{ConnectionName, is_connection_name}
use Rattle.broker_spec.proofs.ConnectionNames.{same_name}
use Rattle.world_base.specs.declared.node_connections.port.Port.{Port}
use Rattle.world_base.specs.declared.node_connections.connection.Connection.{Connection}
use Rattle.world_base.specs.node_connections.Connections.{fresh, is_at, is_listed}
use Rattle.world_base.specs.node_connections.ConnectionChanges.{closed_connection, nothing_pending, changed_where}
use Rattle.world_base.specs.node_core.Core.{CoreState, serves}
use Rattle.world_base.specs.node_core.PortOutput.{hands_over, left_by}
use Rattle.world_base.specs.node_core.Step.{next_name, with_next_connection, settled}
use Rattle.headline.specs.node_moves.Closed.{listed_named}
use Rattle.headline.specs.node_moves.Ends.{IsOrderly}
use Rattle.headline.specs.node_moves.Moves.NodeMove.{hears, opens_one, holds, reads_first, reads_later, closes, refuses, loses_one, loses_next, expels_one, cuts_log, crashes, settles, hands}
use Rattle.headline.specs.node_moves.Names.{IsNextName, NewNamesAreOfTheBallot}
use Rattle.headline.proofs.of_node_moves.Views.{found_passes, one_changed, one_mapped, some_none, view, view_of_changed, view_of_others}
use Rattle.headline.proofs.of_node_moves.Kept.{left_true, named, named_kept}
use Rattle.headline.proofs.of_node_moves.NothingOnClosed.{found_pushed, move_shuts}
use Rattle.headline.proofs.of_node_moves.Shut.{Shuts, all, found_filtered, found_mapped}
use Rattle.headline.proofs.of_node_moves.Shut.Shuts.{nobody, stays_open, is_shut, was_shut}

-- who is not there does not come by a change
pub stays_away : (bytes : List ℕ) (o p : Option Connection) (d : Connection) → Shuts bytes o p → o ≡ None → p ≡ Some d → ⊥
stays_away bytes o None d nobody none there = some_none d (sym there)
stays_away bytes None (Some e) d shuts none there = elim shuts [ ]
stays_away bytes (Some c) (Some e) d (stays_open a b f) none there = some_none c none
stays_away bytes (Some c) (Some e) d (is_shut front a b f g) none there = some_none c none
stays_away bytes (Some c) (Some e) d (was_shut a b f) none there = some_none c none

pub opened_new : (x : ConnectionName) (port : Port) (core : CoreState) (d : Connection) → listed_named x core ≡ None → listed_named x (with_next_connection port core) ≡ Some d
    → IsNextName core x
unfolding with_next_connection
opened_new x port core d none there = by ((serves core && not (list_any (is_at port) core.connections)) && is_connection_name (next_name core)) refl there
  where
    now : (view all (named x) core.connections ≡ Some d) ⊎ (d ≡ fresh port (next_name core)) → named x d ≡ true → serves core ≡ true → IsNextName core x
    now (inl f) is leads = absurd (some_none d (sym f ∙ none))
    now (inr f) is leads =
        let same : next_name core ≡ x = sym (ap (λ (z : Connection). z.name) f) ∙ same_name d.name x is in
        record { leads = leads; ballot = sym (ap (λ (y : ConnectionName). y.ballot) same); count = sym (ap (λ (y : ConnectionName). y.count) same) }

    by : (b : Bool) → ((serves core && not (list_any (is_at port) core.connections)) && is_connection_name (next_name core)) ≡ b
        → listed_named x (let k : CoreState = if b then record core { last_name = next_name core; connections = core.connections ++ fresh port (next_name core) ∷ [] } else core in k) ≡ Some d
        → IsNextName core x
    by true serving f =
        now (found_pushed (named x) core.connections (fresh port (next_name core)) d f)
        (found_passes (named x) (core.connections ++ fresh port (next_name core) ∷ []) d f)
        (left_true (serves core) (not (list_any (is_at port) core.connections))
        (left_true (serves core && not (list_any (is_at port) core.connections)) (is_connection_name (next_name core)) serving))
    by false serving f = absurd (some_none d (sym f ∙ none))

pub settled_away : (x : ConnectionName) (core : CoreState) (d : Connection) → IsOrderly core → listed_named x core ≡ None → listed_named x (settled core) ≡ Some d → ⊥
unfolding settled
settled_away x core d o none there = by (serves core) there
  where
    by : (b : Bool) → view all (named x) (filter is_listed (if b then core.connections else map closed_connection core.connections)) ≡ Some d → ⊥
    by true f = some_none d (sym (found_filtered x is_listed core.connections d (o.names x) f).0 ∙ none)
    by false f =
        let g = found_filtered x is_listed (map closed_connection core.connections) d (one_mapped (named x) closed_connection core.connections (λ z. refl) (o.names x)) f in
        let h = found_mapped x core.connections d g.0 in
        some_none h.0 (sym h.1 ∙ none)

pub handed_away : (x : ConnectionName) (port : Port) (core : CoreState) (d : Connection) → IsOrderly core → listed_named x core ≡ None
    → listed_named x (hands_over port core) ≡ Some d → ⊥
unfolding hands_over
handed_away x port core d o none there = by (find (is_at port) core.connections) refl there
  where
    on : (c : Connection) → find (is_at port) core.connections ≡ Some c → (b : Bool) → named x c ≡ b
        → view all (named x) (changed_where (is_at port) nothing_pending core.connections) ≡ Some d → ⊥
    on c found true is f =
        some_none c (sym (view_of_changed all (named x) (is_at port) nothing_pending core.connections c (o.names x) (λ z t. refl) (named_kept x nothing_pending (λ z. refl)) found is).0 ∙ none)
    on c found false other f =
        some_none d (sym (sym (view_of_others all (named x) (is_at port) nothing_pending core.connections c (named_kept x nothing_pending (λ z. refl)) found other) ∙ f) ∙ none)

    by : (q : Option Connection) → find (is_at port) core.connections ≡ q → listed_named x (left_by port core q) ≡ Some d → ⊥
    by None found f = some_none d (sym f ∙ none)
    by (Some c) found f =
        on c found (named x c) refl
        (found_filtered x is_listed (changed_where (is_at port) nothing_pending core.connections) d
        (one_changed (named x) (is_at port) nothing_pending core.connections (λ z. refl) (o.names x)) f).0

pub new_names_are_of_the_ballot : NewNamesAreOfTheBallot
new_names_are_of_the_ballot core turn (opens_one port) o x d none there = opened_new x port core d none there
new_names_are_of_the_ballot core turn settles o x d none there = absurd (settled_away x core d o none there)
new_names_are_of_the_ballot core turn (hands port) o x d none there = absurd (handed_away x port core d o none there)
new_names_are_of_the_ballot core turn (hears input other) o x d none there = absurd (stays_away _ _ _ d (move_shuts core turn (hears input other) o x tt) none there)
new_names_are_of_the_ballot core turn (holds port piece) o x d none there = absurd (stays_away _ _ _ d (move_shuts core turn (holds port piece) o x tt) none there)
new_names_are_of_the_ballot core turn (reads_first now port c connect rest at first is room) o x d none there =
    absurd (stays_away _ _ _ d (move_shuts core turn (reads_first now port c connect rest at first is room) o x tt) none there)
new_names_are_of_the_ballot core turn (reads_later now port c packet rest at later is room) o x d none there =
    absurd (stays_away _ _ _ d (move_shuts core turn (reads_later now port c packet rest at later is room) o x tt) none there)
new_names_are_of_the_ballot core turn (closes port) o x d none there = absurd (stays_away _ _ _ d (move_shuts core turn (closes port) o x tt) none there)
new_names_are_of_the_ballot core turn (refuses port c code at first is) o x d none there =
    absurd (stays_away _ _ _ d (move_shuts core turn (refuses port c code at first is) o x tt) none there)
new_names_are_of_the_ballot core turn (loses_one port c at asked_before) o x d none there =
    absurd (stays_away _ _ _ d (move_shuts core turn (loses_one port c at asked_before) o x tt) none there)
new_names_are_of_the_ballot core turn (loses_next c at) o x d none there = absurd (stays_away _ _ _ d (move_shuts core turn (loses_next c at) o x tt) none there)
new_names_are_of_the_ballot core turn (expels_one client) o x d none there = absurd (stays_away _ _ _ d (move_shuts core turn (expels_one client) o x tt) none there)
new_names_are_of_the_ballot core turn (cuts_log can) o x d none there = absurd (stays_away _ _ _ d (move_shuts core turn (cuts_log can) o x tt) none there)
new_names_are_of_the_ballot core turn crashes o x d none there = absurd (stays_away _ _ _ d (move_shuts core turn crashes o x tt) none there)
