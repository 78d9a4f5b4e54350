-- The first connection that a node opens in its ballot has the first name there.
use Rattle.std.proofs.Common.{◌≡◌, ◌<◌, ◌≤◌, ◌^◌, Bool, true, false, ◌+◌, if◌then◌else◌, not, List, [], ◌∷◌, ◌++◌, filter, map, length, refl, ap, ◌∙◌, arith}
use Rattle.std.specs.Prelude.{◌&&◌, nat_le, nat_lt}
use Rattle.std.specs.List.{list_any}
use Rattle.std.proofs.lemmas.Bool.{le-leb, lt-ltb, ne_eqb}
use Rattle.std.proofs.lemmas.List.Elements.{filter-append}
use Rattle.lists.proofs.OfEach.{each_append}
use Rattle.broker_spec.specs.Connection.{ConnectionName, is_connection_name}
use Rattle.world_base.specs.declared.node_connections.connection.Connection.{Connection}
use Rattle.world_base.specs.declared.node_connections.port.Port.{Port}
use Rattle.world_base.specs.node_connections.Connections.{fresh, has_failed, is_at, is_listed}
use Rattle.world_base.specs.node_connections.ConnectionChanges.{closed_connection}
use Rattle.world_base.specs.node_core.Core.{CoreState, StepOutcome, serves}
use Rattle.world_base.specs.node_core.FailedConnections.{reports_all_failed}
use Rattle.world_base.specs.node_core.Step.{next_name, with_next_connection, settled}
use Rattle.world_base.specs.node_core.Effects.{without_messages}
use Rattle.recovery.specs.one_node.Opening.{FirstIsOpened, first_name_of_node, with_first_connection}
use Rattle.recovery.proofs.of_one_node.OneDelivery.{calm_finds, none_lost}

both : (x y : Bool) → x ≡ true → y ≡ true → (x && y) ≡ true
both x y e f = rw (e, f) refl

-- the node with the connection, before it is settled
abbrev with_new : Port → CoreState → CoreState
with_new port core = record core { last_name = first_name_of_node core; connections = core.connections ++ fresh port (first_name_of_node core) ∷ [] }

next_is_first : (core : CoreState) → core.last_name.ballot < core.replica.state.joined → next_name core ≡ first_name_of_node core
next_is_first core low =
    ap (λ (b : Bool). let x : ConnectionName = record { ballot = core.replica.state.joined; count = (if b then core.last_name.count else 0) + 1 } in x)
    (ne_eqb core.last_name.ballot core.replica.state.joined (λ e. let z = low in omega (arith, e, z)))

is_name : (core : CoreState) → core.last_name.ballot < core.replica.state.joined → core.replica.state.joined ≤ 2 ^ 32 → is_connection_name (next_name core) ≡ true
is_name core low most =
    ap is_connection_name (next_is_first core low)
    ∙ ap (λ (b : Bool). (b && nat_le core.replica.state.joined (2 ^ 32)) && (nat_lt 0 1 && nat_le 1 (2 ^ 40))) (lt-ltb 0 core.replica.state.joined (let z = low in omega (arith, z)))
    ∙ ap (λ (b : Bool). b && (nat_lt 0 1 && nat_le 1 (2 ^ 40))) (le-leb core.replica.state.joined (2 ^ 32) most)

opens_first : (core : CoreState) (port : Port) → serves core ≡ true → core.last_name.ballot < core.replica.state.joined → core.replica.state.joined ≤ 2 ^ 32 →
    list_any (is_at port) core.connections ≡ false → with_next_connection port core ≡ with_new port core
unfolding with_next_connection
opens_first core port leads low most new =
    ap (λ (b : Bool). if b then opened (next_name core) else core)
    (both (serves core && not (list_any (is_at port) core.connections)) (is_connection_name (next_name core))
    (both (serves core) (not (list_any (is_at port) core.connections)) leads (ap not new)) (is_name core low most))
    ∙ ap opened (next_is_first core low)
  where
    opened : ConnectionName → CoreState
    opened x = record core { last_name = x; connections = core.connections ++ fresh port x ∷ [] }

settled_new : (core : CoreState) (port : Port) → serves core ≡ true → settled (with_new port core) ≡ with_first_connection port core
unfolding settled
settled_new core port leads =
    ap (λ (b : Bool). let k : CoreState = record (with_new port core) {
      connections = filter is_listed (if b then (with_new port core).connections else map closed_connection (with_new port core).connections);
    } in k) leads
    ∙ ap (λ (l : List Connection). let k : CoreState = record (with_new port core) { connections = l } in k)
    (filter-append is_listed core.connections (fresh port (first_name_of_node core) ∷ []))

pub first_is_opened : FirstIsOpened
first_is_opened core port now leads calm low most new =
    ap (λ (k : CoreState). ending (without_messages k)) (opens_first core port leads low most new)
    ∙ ap (λ (t : StepOutcome). let u : StepOutcome = record { core = settled t.core; messages = [] ++ t.messages } in u)
    (none_lost (length (with_new port core).connections) (with_new port core) (calm_finds (with_new port core).connections
    (each_append (λ (c : Connection). has_failed c ≡ false) core.connections (fresh port (first_name_of_node core) ∷ []) calm (refl, tt))))
    ∙ ap without_messages (settled_new core port leads)
  where
    ending : StepOutcome → StepOutcome
    ending first = record { core = settled (reports_all_failed first.core).core; messages = first.messages ++ (reports_all_failed first.core).messages }
