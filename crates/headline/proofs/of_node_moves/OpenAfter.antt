-- A connection that is open after a move was open before, except one that is opened.
use Rattle.std.proofs.Common.{◌≡◌, ℕ, Bool, true, false, not, if◌then◌else◌, List, [], ◌∷◌, ◌++◌, Option, Some, None, refl, sym, ap, ◌∙◌, filter, map}
use Rattle.std.specs.List.{find}
use Rattle.std.proofs.lemmas.Bool.{both_ways}
use Rattle.broker_spec.specs.Connection.{ConnectionName}
use Rattle.world_base.specs.declared.node_connections.port.Port.{Port}
use Rattle.world_base.specs.declared.node_connections.connection.Connection.{Connection}
use Rattle.world_base.specs.node_connections.Connections.{is_at, is_listed, is_closed}
use Rattle.world_base.specs.node_connections.ConnectionChanges.{closed_connection, nothing_pending, changed_where}
use Rattle.world_base.specs.node_core.Core.{CoreState, serves}
use Rattle.world_base.specs.node_core.PortOutput.{hands_over, left_by}
use Rattle.world_base.specs.node_core.Step.{settled}
use Rattle.headline.specs.node_moves.Closed.{listed_named}
use Rattle.headline.specs.node_moves.Ends.{IsOrderly}
use Rattle.headline.proofs.of_node_moves.Views.{one_changed, one_mapped, same_some, view, view_of_changed, view_of_others}
use Rattle.headline.proofs.of_node_moves.Kept.{live, named, named_kept}
use Rattle.headline.proofs.of_node_moves.Shut.{Shuts, all, found_filtered, found_mapped}
use Rattle.headline.proofs.of_node_moves.Shut.Shuts.{nobody, stays_open, is_shut, was_shut}

pub open_if : (b : Bool) → not b ≡ true → b ≡ false
open_if true e = cc
open_if false e = refl

over_if : (b : Bool) → not b ≡ false → b ≡ true
over_if true e = refl
over_if false e = cc

pub shuts_open : (bytes : List ℕ) (o p : Option Connection) (d : Connection) → Shuts bytes o p → p ≡ Some d → is_closed d.stage ≡ false
    → (c : Connection) × (o ≡ Some c) × (is_closed c.stage ≡ false)
shuts_open bytes o None d nobody e lives = cc
shuts_open bytes None (Some z) d shuts e lives = elim shuts [ ]
shuts_open bytes (Some c) (Some z) d (stays_open a b f) e lives = (c, refl, open_if (is_closed c.stage) a)
shuts_open bytes (Some c) (Some z) d (is_shut front a b f g) e lives =
    absurd (both_ways (is_closed d.stage) lives (over_if (is_closed d.stage) (sym (ap live (same_some z d e)) ∙ b)))
shuts_open bytes (Some c) (Some z) d (was_shut a b f) e lives =
    absurd (both_ways (is_closed d.stage) lives (over_if (is_closed d.stage) (sym (ap live (same_some z d e)) ∙ b)))

-- one that is there stays the first of its name
pub found_front : (test : Connection → Bool) (cs : List Connection) (z c : Connection) → find test cs ≡ Some c → find test (cs ++ z ∷ []) ≡ Some c
found_front test [] z c e = cc
found_front test (d ∷ cs) z c e = by (test d) (found_front test cs z c) e
  where
    by : (b : Bool) → (find test cs ≡ Some c → find test (cs ++ z ∷ []) ≡ Some c) → (if b then Some d else find test cs) ≡ Some c
        → (if b then Some d else find test (cs ++ z ∷ [])) ≡ Some c
    by true ih f = f
    by false ih f = ih f

-- of what is open after the settling
pub settled_open : (x : ConnectionName) (core : CoreState) (d : Connection) → IsOrderly core → listed_named x (settled core) ≡ Some d → is_closed d.stage ≡ false
    → (serves core ≡ true) × (listed_named x core ≡ Some d)
unfolding settled
settled_open x core d o e lives = by (serves core) refl e
  where
    by : (b : Bool) → serves core ≡ b → view all (named x) (filter is_listed (if b then core.connections else map closed_connection core.connections)) ≡ Some d
        → (b ≡ true) × (listed_named x core ≡ Some d)
    by true leads f = (refl, (found_filtered x is_listed core.connections d (o.names x) f).0)
    by false leads f =
        let g = found_filtered x is_listed (map closed_connection core.connections) d (one_mapped (named x) closed_connection core.connections (λ z. refl) (o.names x)) f in
        let h = found_mapped x core.connections d g.0 in
        let over : is_closed d.stage ≡ true = ap (λ (z : Connection). is_closed z.stage) h.2 in
        absurd (both_ways (is_closed d.stage) lives over)

pub handed_open : (x : ConnectionName) (port : Port) (core : CoreState) (d : Connection) → IsOrderly core → listed_named x (hands_over port core) ≡ Some d
    → is_closed d.stage ≡ false → (c : Connection) × (listed_named x core ≡ Some c) × (is_closed c.stage ≡ false)
unfolding hands_over
handed_open x port core d o e lives = by (find (is_at port) core.connections) refl e
  where
    on : (c : Connection) → find (is_at port) core.connections ≡ Some c → (b : Bool) → named x c ≡ b
        → view all (named x) (changed_where (is_at port) nothing_pending core.connections) ≡ Some d → (z : Connection) × (listed_named x core ≡ Some z) × (is_closed z.stage ≡ false)
    on c found true is f =
        let two = view_of_changed all (named x) (is_at port) nothing_pending core.connections c (o.names x) (λ z t. refl) (named_kept x nothing_pending (λ z. refl)) found is in
        (c, two.0, ap (λ (z : Connection). is_closed z.stage) (same_some (nothing_pending c) d (sym two.1 ∙ f)) ∙ lives)
    on c found false other f =
        (d, sym (view_of_others all (named x) (is_at port) nothing_pending core.connections c (named_kept x nothing_pending (λ z. refl)) found other) ∙ f, lives)

    by : (q : Option Connection) → find (is_at port) core.connections ≡ q → listed_named x (left_by port core q) ≡ Some d
        → (z : Connection) × (listed_named x core ≡ Some z) × (is_closed z.stage ≡ false)
    by None found f = (d, f, lives)
    by (Some c) found f =
        on c found (named x c) refl
        (found_filtered x is_listed (changed_where (is_at port) nothing_pending core.connections) d
        (one_changed (named x) (is_at port) nothing_pending core.connections (λ z. refl) (o.names x)) f).0
