-- Names keep their ballot in each move in which the replica receives nothing and does not stop.
use Rattle.std.proofs.Common.{◌≡◌, ℕ, Bool, true, false, not, ◌&&◌, if◌then◌else◌, List, [], ◌∷◌, ◌++◌, Option, Some, None, refl, sym, ap, ◌∙◌}
use Rattle.std.specs.List.{list_any}
use Rattle.broker_spec.specs.Connection.{ConnectionName, is_connection_name}
use Rattle.world_base.specs.declared.node_connections.port.Port.{Port}
use Rattle.world_base.specs.declared.node_connections.connection.Connection.{Connection}
use Rattle.world_base.specs.node_connections.Connections.{fresh, is_at, is_closed}
use Rattle.world_base.specs.node_core.Core.{CoreState, StepOutcome, serves}
use Rattle.world_base.specs.node_core.Step.{next_name, with_next_connection, settled}
use Rattle.headline.specs.node_moves.Closed.{listed_named}
use Rattle.headline.specs.node_moves.Ends.{IsOrderly}
use Rattle.headline.specs.node_moves.BallotNames.{AreOfTheBallot, moves_replica}
use Rattle.headline.specs.node_moves.Moves.{NodeMove}
use Rattle.headline.specs.node_moves.Moves.NodeMove.{hears, opens_one, holds, reads_first, reads_later, closes, refuses, loses_one, loses_next, expels_one, cuts_log, crashes, settles, hands}
use Rattle.headline.proofs.of_node_moves.Kept.{named}
use Rattle.headline.proofs.of_node_moves.MovesOfReplica.{serves_same}
use Rattle.headline.proofs.of_node_moves.OpenAfter.{found_front, handed_open, settled_open, shuts_open}
use Rattle.headline.proofs.of_node_moves.NewNames.{opened_new}
use Rattle.headline.proofs.of_node_moves.NothingOnClosed.{move_shuts}
use Rattle.headline.proofs.of_node_moves.ReplicaStays.{Same}
use Rattle.headline.proofs.of_node_moves.Shut.{Shuts}

-- what was open before has a name of the ballot still
pub still_of : (x : ConnectionName) (core later : CoreState) (c : Connection) → AreOfTheBallot core → Same core.replica.state later.replica.state → listed_named x core ≡ Some c
    → is_closed c.stage ≡ false → (serves later ≡ true) × (x.ballot ≡ later.replica.state.joined)
still_of x core later c of same there' lives =
    let a = of.each x c there' lives in (serves_same core later same ∙ a.0, a.1 ∙ sym same.joined)

pub by_shuts : (x : ConnectionName) (core later : CoreState) (bytes : List ℕ) (d : Connection) → AreOfTheBallot core → Same core.replica.state later.replica.state
    → Shuts bytes (listed_named x core) (listed_named x later) → listed_named x later ≡ Some d → is_closed d.stage ≡ false
    → (serves later ≡ true) × (x.ballot ≡ later.replica.state.joined)
by_shuts x core later bytes d of same shuts e lives =
    let z = shuts_open bytes (listed_named x core) (listed_named x later) d shuts e lives in still_of x core later z.0 of same z.1 z.2

-- one that is there is there when another is opened
opened_found : (x : ConnectionName) (port : Port) (core : CoreState) (c : Connection) → listed_named x core ≡ Some c → listed_named x (with_next_connection port core) ≡ Some c
unfolding with_next_connection
opened_found x port core c f = by ((serves core && not (list_any (is_at port) core.connections)) && is_connection_name (next_name core))
  where
    by : (b : Bool) → listed_named x (let k : CoreState = if b then record core { last_name = next_name core; connections = core.connections ++ fresh port (next_name core) ∷ [] } else core in k) ≡ Some c
    by true = found_front (named x) core.connections (fresh port (next_name core)) c f
    by false = f

-- a connection that is opened
opened_of : (x : ConnectionName) (port : Port) (core : CoreState) (d : Connection) → AreOfTheBallot core → Same core.replica.state (with_next_connection port core).replica.state
    → listed_named x (with_next_connection port core) ≡ Some d → is_closed d.stage ≡ false → (o : Option Connection) → listed_named x core ≡ o
    → (serves (with_next_connection port core) ≡ true) × (x.ballot ≡ (with_next_connection port core).replica.state.joined)
opened_of x port core d of same e lives None none =
    let n = opened_new x port core d none e in (serves_same core (with_next_connection port core) same ∙ n.leads, n.ballot ∙ sym same.joined)
opened_of x port core d of same e lives (Some c) there' =
    let one : d ≡ c = same_found (sym e ∙ still_found) in
    still_of x core (with_next_connection port core) c of same there' (ap (λ (z : Connection). is_closed z.stage) (sym one) ∙ lives)
  where
    same_found : {a b : Connection} → Some a ≡ Some b → a ≡ b
    same_found f = cc

    still_found : listed_named x (with_next_connection port core) ≡ Some c
    still_found = opened_found x port core c there'

-- ---- the moves

pub move_of : (core : CoreState) (outcome : StepOutcome) (m : NodeMove core outcome) → IsOrderly core → AreOfTheBallot core → Same core.replica.state outcome.core.replica.state → moves_replica m ≡ false
    → (x : ConnectionName) (d : Connection) → listed_named x outcome.core ≡ Some d → is_closed d.stage ≡ false → (serves outcome.core ≡ true) × (x.ballot ≡ outcome.core.replica.state.joined)
move_of core outcome (hears input other) o of same calm x d e lives = absurd cc
move_of core outcome (cuts_log can) o of same calm x d e lives = absurd cc
move_of core outcome crashes o of same calm x d e lives = absurd cc
move_of core outcome (opens_one port) o of same calm x d e lives = opened_of x port core d of same e lives (listed_named x core) refl
move_of core outcome settles o of same calm x d e lives = let z = settled_open x core d o e lives in still_of x core (settled core) d of same z.1 lives
move_of core outcome (hands port) o of same calm x d e lives = let z = handed_open x port core d o e lives in still_of x core outcome.core z.0 of same z.1 z.2
move_of core outcome (holds port piece) o of same calm x d e lives =
    by_shuts x core outcome.core _ d of same (move_shuts core outcome (holds port piece) o x tt) e lives
move_of core outcome (reads_first now port c connect rest at first is room) o of same calm x d e lives =
    by_shuts x core outcome.core _ d of same (move_shuts core outcome (reads_first now port c connect rest at first is room) o x tt) e lives
move_of core outcome (reads_later now port c packet rest at later is room) o of same calm x d e lives =
    by_shuts x core outcome.core _ d of same (move_shuts core outcome (reads_later now port c packet rest at later is room) o x tt) e lives
move_of core outcome (loses_next c at) o of same calm x d e lives = by_shuts x core outcome.core _ d of same (move_shuts core outcome (loses_next c at) o x tt) e lives
move_of core outcome (expels_one client) o of same calm x d e lives = by_shuts x core outcome.core _ d of same (move_shuts core outcome (expels_one client) o x tt) e lives
move_of core outcome (closes port) o of same calm x d e lives = by_shuts x core outcome.core _ d of same (move_shuts core outcome (closes port) o x tt) e lives
move_of core outcome (refuses port c code at first is) o of same calm x d e lives =
    by_shuts x core outcome.core _ d of same (move_shuts core outcome (refuses port c code at first is) o x tt) e lives
move_of core outcome (loses_one port c at asked_before) o of same calm x d e lives =
    by_shuts x core outcome.core _ d of same (move_shuts core outcome (loses_one port c at asked_before) o x tt) e lives
