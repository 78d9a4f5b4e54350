-- What a move does to the bytes of a connection that wait to be handed over.
use Rattle.std.proofs.Common.{◌≡◌, ◌⊎◌, inl, inr, ℕ, Bool, true, false, not, ◌&&◌, if◌then◌else◌, List, [], ◌∷◌, ◌++◌, Option, Some, None, refl, sym, ap, ◌∙◌, subst, filter, map}
use Rattle.std.specs.List.{find, list_any}
use Rattle.std.proofs.lemmas.Bool.{both_ways}
use Rattle.std.proofs.lemmas.List.{append-nil}
use Rattle.broker_spec.specs.Connection.{ConnectionName, is_connection_name}
use Rattle.lists.specs.Lists.{IsPrefixOf}
use Rattle.lists.proofs.Prefixes.{prefix_same}
use Rattle.world_base.specs.declared.node_connections.port.Port.{Port}
use Rattle.world_base.specs.declared.node_connections.connection.Connection.{Connection}
use Rattle.world_base.specs.node_connections.Connections.{fresh, is_at, is_listed}
use Rattle.world_base.specs.node_connections.ConnectionChanges.{changed_where, closed_connection, nothing_pending}
use Rattle.world_base.specs.node_core.Core.{CoreState, StepOutcome, serves}
use Rattle.world_base.specs.node_core.PortOutput.{hands_over, left_by}
use Rattle.world_base.specs.node_core.Step.{next_name, with_next_connection, settled}
use Rattle.headline.specs.node_moves.Closed.{listed_named}
use Rattle.headline.specs.node_moves.Ends.{IsOrderly}
use Rattle.headline.specs.node_moves.LossyMoves.{NodeMoveOrLost}
use Rattle.headline.specs.node_moves.LossyMoves.NodeMoveOrLost.{exactly, hears_losing, first_losing, later_losing, tells_losing, expels_losing, forgets, halts, fails, unheard, drops}
use Rattle.headline.specs.node_moves.Moves.{NodeMove}
use Rattle.headline.specs.node_moves.Moves.NodeMove.{hears, opens_one, holds, reads_first, reads_later, closes, refuses, loses_one, loses_next, expels_one, cuts_log, crashes, settles, hands}
use Rattle.headline.proofs.of_node_moves.Kept.{live, named, named_kept}
use Rattle.headline.proofs.of_node_moves.LossyShuts.{lossy_shuts, sent_in}
use Rattle.headline.proofs.of_node_moves.NothingOnClosed.{found_pushed, move_shuts}
use Rattle.headline.proofs.of_node_moves.NothingOnClosed.{sent_in as exactly_sent}
use Rattle.headline.proofs.of_node_moves.OpenAfter.{found_front}
use Rattle.headline.proofs.of_node_moves.Shut.{Shuts, all, found_filtered, found_mapped, shuts_same}
use Rattle.headline.proofs.of_node_moves.Shut.Shuts.{nobody, stays_open, is_shut, was_shut}
use Rattle.headline.proofs.of_node_moves.Views.{one_changed, one_mapped, same_some, some_none, view, view_of_changed, view_of_others}
use Rattle.headline.specs.node_group.Streams.{bytes_named}
use Rattle.headline.specs.node_group.Streams.{handed_on as exactly_handed}
use Rattle.headline.proofs.of_node_group.Handed.{handed_on}

-- Of a connection some bytes are handed over, and others are queued after those that wait: all
-- while it is open, a prefix of them if it is closed, and none if it was closed.
pub data Flows (over bytes : List ℕ) : Option Connection → Option Connection → Type 0 where
  away : over ≡ [] → Flows over bytes None None
  begins : {d : Connection} → over ≡ [] → live d ≡ true → d.pending ≡ [] → Flows over bytes None (Some d)
  flows : {c d : Connection} → live c ≡ true → live d ≡ true → over ++ d.pending ≡ c.pending ++ bytes → Flows over bytes (Some c) (Some d)
  ebbs : {c d : Connection} (front : List ℕ) → live d ≡ false → (live c ≡ false → front ≡ []) → IsPrefixOf front bytes → over ++ d.pending ≡ c.pending ++ front
      → Flows over bytes (Some c) (Some d)
  dries : {c : Connection} → IsPrefixOf over c.pending → Flows over bytes (Some c) None

from_shuts : {bytes : List ℕ} {o p : Option Connection} → Shuts bytes o p → Flows [] bytes o p
from_shuts (nobody {o = None}) = away refl
from_shuts (nobody {o = Some c}) = dries (record { rest = c.pending; is = refl })
from_shuts (stays_open a b e) = flows a b e
from_shuts (is_shut {c = c} front a b e short) = ebbs front b (λ dead. absurd (both_ways (live c) dead a)) short e
from_shuts {bytes = bytes} (was_shut {c = c} a b e) = ebbs [] b (λ dead. refl) (record { rest = bytes; is = refl }) (e ∙ sym (append-nil c.pending))

-- nothing happens to it
stays : (o : Option Connection) → Flows [] [] o o
stays o = from_shuts (shuts_same o)

stays_there : (c d : Connection) → c ≡ d → Flows [] [] (Some c) (Some d)
stays_there c d e = subst (λ (z : Connection). Flows [] [] (Some c) (Some z)) e (stays (Some c))

-- ---- one is opened

opens_flow : (x : ConnectionName) (port : Port) (core : CoreState) → Flows [] [] (listed_named x core) (listed_named x (with_next_connection port core))
unfolding with_next_connection
opens_flow x port core = by ((serves core && not (list_any (is_at port) core.connections)) && is_connection_name (next_name core))
  where
    one : Connection
    one = fresh port (next_name core)

    on : (o p : Option Connection) → view all (named x) core.connections ≡ o → view all (named x) (core.connections ++ one ∷ []) ≡ p → Flows [] [] o p
    on None None before after = away refl
    on (Some c) None before after = absurd (some_none c (sym (found_front (named x) core.connections one c before) ∙ after))
    on (Some c) (Some d) before after = stays_there c d (same_some c d (sym (found_front (named x) core.connections one c before) ∙ after))
    on None (Some d) before after = new (found_pushed (named x) core.connections one d after)
      where
        new : (view all (named x) core.connections ≡ Some d) ⊎ (d ≡ one) → Flows [] [] None (Some d)
        new (inl f) = absurd (some_none d (sym f ∙ before))
        new (inr f) = begins refl (ap live f) (ap (λ (z : Connection). z.pending) f)

    by : (b : Bool) → Flows [] [] (listed_named x core)
        (listed_named x (let k : CoreState = if b then record core { last_name = next_name core; connections = core.connections ++ one ∷ [] } else core in k))
    by true = on (view all (named x) core.connections) (view all (named x) (core.connections ++ one ∷ [])) refl refl
    by false = stays (listed_named x core)

-- ---- connections are settled

settles_flow : (x : ConnectionName) (core : CoreState) → IsOrderly core → Flows [] [] (listed_named x core) (listed_named x (settled core))
unfolding settled
settles_flow x core o = by (serves core)
  where
    kept : (before after : Option Connection) → view all (named x) core.connections ≡ before → view all (named x) (filter is_listed core.connections) ≡ after
        → Flows [] [] before after
    kept None None e f = away refl
    kept None (Some d) e f = absurd (some_none d (sym (found_filtered x is_listed core.connections d (o.names x) f).0 ∙ e))
    kept (Some c) None e f = dries (record { rest = c.pending; is = refl })
    kept (Some c) (Some d) e f = stays_there c d (same_some c d (sym e ∙ (found_filtered x is_listed core.connections d (o.names x) f).0))

    was : (d : Connection) → view all (named x) (filter is_listed (map closed_connection core.connections)) ≡ Some d
        → (c : Connection) × (view all (named x) core.connections ≡ Some c) × (d ≡ closed_connection c)
    was d f =
        found_mapped x core.connections d
        (found_filtered x is_listed (map closed_connection core.connections) d (one_mapped (named x) closed_connection core.connections (λ z. refl) (o.names x)) f).0

    shut : (before after : Option Connection) → view all (named x) core.connections ≡ before → view all (named x) (filter is_listed (map closed_connection core.connections)) ≡ after
        → Flows [] [] before after
    shut None None e f = away refl
    shut None (Some d) e f = let h = was d f in absurd (some_none h.0 (sym h.1 ∙ e))
    shut (Some c) None e f = dries (record { rest = c.pending; is = refl })
    shut (Some c) (Some d) e f =
        let h = was d f in
        ebbs [] (ap live h.2) (λ dead. refl) (record { rest = []; is = refl })
        (ap (λ (z : Connection). z.pending) h.2 ∙ ap (λ (z : Connection). z.pending) (sym (same_some c h.0 (sym e ∙ h.1))) ∙ sym (append-nil c.pending))

    by : (b : Bool) → Flows [] [] (listed_named x core) (view all (named x) (filter is_listed (if b then core.connections else map closed_connection core.connections)))
    by true = kept (view all (named x) core.connections) (view all (named x) (filter is_listed core.connections)) refl refl
    by false = shut (view all (named x) core.connections) (view all (named x) (filter is_listed (map closed_connection core.connections))) refl refl

-- ---- bytes are handed over

hands_flow : (x : ConnectionName) (port : Port) (core : CoreState) → IsOrderly core
    → Flows (bytes_named x (find (is_at port) core.connections)) [] (listed_named x core) (listed_named x (hands_over port core))
unfolding hands_over
hands_flow x port core o = by (find (is_at port) core.connections) refl
  where
    later : List Connection
    later = changed_where (is_at port) nothing_pending core.connections

    -- what stays in the list after it
    was : (d : Connection) → view all (named x) (filter is_listed later) ≡ Some d → view all (named x) later ≡ Some d
    was d f = (found_filtered x is_listed later d (one_changed (named x) (is_at port) nothing_pending core.connections (λ z. refl) (o.names x)) f).0

    other : (before after : Option Connection) → view all (named x) core.connections ≡ before → view all (named x) later ≡ before
        → view all (named x) (filter is_listed later) ≡ after → Flows [] [] before after
    other None None e g f = away refl
    other None (Some d) e g f = absurd (some_none d (sym (was d f) ∙ g))
    other (Some c) None e g f = dries (record { rest = c.pending; is = refl })
    other (Some c) (Some d) e g f = stays_there c d (same_some c d (sym g ∙ was d f))

    left : (c d : Connection) → d ≡ nothing_pending c → (b : Bool) → live c ≡ b → Flows c.pending [] (Some c) (Some d)
    left c d e true lives = flows lives (ap live e ∙ lives) (ap (λ (z : Connection). c.pending ++ z.pending) e)
    left c d e false dead = ebbs [] (ap live e ∙ dead) (λ z. refl) (record { rest = []; is = refl }) (ap (λ (z : Connection). c.pending ++ z.pending) e)

    own : (c : Connection) (after : Option Connection) → view all (named x) later ≡ Some (nothing_pending c) → view all (named x) (filter is_listed later) ≡ after
        → Flows c.pending [] (Some c) after
    own c None e f = dries (prefix_same c.pending)
    own c (Some d) e f = left c d (sym (same_some (nothing_pending c) d (sym e ∙ was d f))) (live c) refl

    on : (c : Connection) → find (is_at port) core.connections ≡ Some c → (b : Bool) → named x c ≡ b
        → Flows (if b then c.pending else []) [] (view all (named x) core.connections) (view all (named x) (filter is_listed later))
    on c found true is =
        let two = view_of_changed all (named x) (is_at port) nothing_pending core.connections c (o.names x) (λ z t. refl) (named_kept x nothing_pending (λ z. refl)) found is in
        subst (λ (q : Option Connection). Flows c.pending [] q (view all (named x) (filter is_listed later))) (sym two.0)
        (own c (view all (named x) (filter is_listed later)) two.1 refl)
    on c found false is =
        other (view all (named x) core.connections) (view all (named x) (filter is_listed later)) refl
        (view_of_others all (named x) (is_at port) nothing_pending core.connections c (named_kept x nothing_pending (λ z. refl)) found is) refl

    by : (q : Option Connection) → find (is_at port) core.connections ≡ q → Flows (bytes_named x q) [] (listed_named x core) (listed_named x (left_by port core q))
    by None found = stays (listed_named x core)
    by (Some c) found = on c found (named x c) refl

-- ---- each move

exactly_flows : (x : ConnectionName) (core : CoreState) (outcome : StepOutcome) (m : NodeMove core outcome) → IsOrderly core
    → Flows (exactly_handed x m) (exactly_sent x m) (listed_named x core) (listed_named x outcome.core)
exactly_flows x core outcome (opens_one port) o = opens_flow x port core
exactly_flows x core outcome settles o = settles_flow x core o
exactly_flows x core outcome (hands port) o = hands_flow x port core o
exactly_flows x core outcome (hears input other) o = from_shuts (move_shuts core outcome (hears input other) o x tt)
exactly_flows x core outcome (holds port piece) o = from_shuts (move_shuts core outcome (holds port piece) o x tt)
exactly_flows x core outcome (reads_first now port c connect rest at first is room) o = from_shuts (move_shuts core outcome (reads_first now port c connect rest at first is room) o x tt)
exactly_flows x core outcome (reads_later now port c packet rest at later is room) o = from_shuts (move_shuts core outcome (reads_later now port c packet rest at later is room) o x tt)
exactly_flows x core outcome (closes port) o = from_shuts (move_shuts core outcome (closes port) o x tt)
exactly_flows x core outcome (refuses port c code at first is) o = from_shuts (move_shuts core outcome (refuses port c code at first is) o x tt)
exactly_flows x core outcome (loses_one port c at asked) o = from_shuts (move_shuts core outcome (loses_one port c at asked) o x tt)
exactly_flows x core outcome (loses_next c at) o = from_shuts (move_shuts core outcome (loses_next c at) o x tt)
exactly_flows x core outcome (expels_one client) o = from_shuts (move_shuts core outcome (expels_one client) o x tt)
exactly_flows x core outcome (cuts_log can) o = from_shuts (move_shuts core outcome (cuts_log can) o x tt)
exactly_flows x core outcome crashes o = from_shuts (move_shuts core outcome crashes o x tt)

pub move_flows : (x : ConnectionName) (core : CoreState) (outcome : StepOutcome) (m : NodeMoveOrLost core outcome) → IsOrderly core
    → Flows (handed_on x m) (sent_in x m) (listed_named x core) (listed_named x outcome.core)
move_flows x core outcome (exactly m) o = exactly_flows x core outcome m o
move_flows x core outcome (hears_losing input account other drives) o = from_shuts (lossy_shuts core outcome (hears_losing input account other drives) o x tt)
move_flows x core outcome (first_losing now port c connect rest account at first is taken) o = from_shuts (lossy_shuts core outcome (first_losing now port c connect rest account at first is taken) o x tt)
move_flows x core outcome (later_losing now port c packet rest account at later is taken) o = from_shuts (lossy_shuts core outcome (later_losing now port c packet rest account at later is taken) o x tt)
move_flows x core outcome (tells_losing name account taken) o = from_shuts (lossy_shuts core outcome (tells_losing name account taken) o x tt)
move_flows x core outcome (expels_losing client account taken) o = from_shuts (lossy_shuts core outcome (expels_losing client account taken) o x tt)
move_flows x core outcome forgets o = from_shuts (lossy_shuts core outcome forgets o x tt)
move_flows x core outcome halts o = from_shuts (lossy_shuts core outcome halts o x tt)
move_flows x core outcome (fails port) o = from_shuts (lossy_shuts core outcome (fails port) o x tt)
move_flows x core outcome unheard o = from_shuts (lossy_shuts core outcome unheard o x tt)
move_flows x core outcome (drops port piece) o = from_shuts (lossy_shuts core outcome (drops port piece) o x tt)
