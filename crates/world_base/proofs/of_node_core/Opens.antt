-- Opens.antt: what the tests before a connection is accepted decide.
use Rattle.std.proofs.Common.{◌≡◌, ℕ, true, false, List, [], ◌∷◌, ◌++◌, Option, Some, None, OnSome, IfNone, refl, sym, ap, ◌∙◌}
use Rattle.std.specs.List.{list_any}
use Rattle.broker_spec.specs.Connection.{ConnectionName, is_connection_name}
use Rattle.world_base.specs.declared.node_connections.port.Port.{Port}
use Rattle.world_base.specs.declared.node_connections.connection.Connection.{Connection}
use Rattle.world_base.specs.node_connections.Connections.{is_at, fresh}
use Rattle.world_base.specs.node_core.Core.{CoreState, serves}
use Rattle.world_base.specs.node_core.Inside.{RunningStep}
use Rattle.world_base.specs.node_core.Step.{accepts_connection, next_name, with_next_connection}

same : (r : RunningStep) (core : CoreState) → core ≡ r.core → r ≡ record r { core = core }
same r core e = ap (λ (x : CoreState). record r { core = x }) (sym e)

-- whether a connection is accepted
pub accepts-idle : (port : Port) (core : CoreState) → serves core ≡ false → accepts_connection port core ≡ false
accepts-idle port core idle = rw idle refl

pub accepts-known : (port : Port) (core : CoreState) → serves core ≡ true → list_any (is_at port) core.connections ≡ true →
    accepts_connection port core ≡ false
accepts-known port core serving known = rw (serving, known) refl

accepts-next : (port : Port) (core : CoreState) → serves core ≡ true → list_any (is_at port) core.connections ≡ false →
    accepts_connection port core ≡ is_connection_name (next_name core)
accepts-next port core serving free = rw (serving, free) refl

pub accepts-some : (port : Port) (core : CoreState) (name : Option ConnectionName) → serves core ≡ true →
    list_any (is_at port) core.connections ≡ false → OnSome name (is_connection_name (next_name core) ≡ true) →
    OnSome name (accepts_connection port core ≡ true)
accepts-some port core None serving free named = tt
accepts-some port core (Some x) serving free named = accepts-next port core serving free ∙ named

pub accepts-none : (port : Port) (core : CoreState) (name : Option ConnectionName) → serves core ≡ true →
    list_any (is_at port) core.connections ≡ false → IfNone name (is_connection_name (next_name core) ≡ false) →
    IfNone name (accepts_connection port core ≡ false)
accepts-none port core None serving free spent = accepts-next port core serving free ∙ spent
accepts-none port core (Some x) serving free spent = tt

-- none is
pub opens-none : (port : Port) (r : RunningStep) → accepts_connection port r.core ≡ false → r ≡ record r { core = with_next_connection port r.core }
unfolding with_next_connection
opens-none port r none = same r _ (rw none refl)

-- one is
as_name : (name : ConnectionName) (ballot count : ℕ) → ballot ≡ name.ballot → count ≡ name.count →
    (let x : ConnectionName = record { ballot = ballot; count = count } in x) ≡ name
as_name name ballot count b n =
    ap (λ (k : ℕ). let x : ConnectionName = record { ballot = k; count = count } in x) b
    ∙ ap (λ (k : ℕ). let x : ConnectionName = record { ballot = name.ballot; count = k } in x) n

pub opened : (port : Port) (r : RunningStep) (name : ConnectionName) (ballot count : ℕ) (c : Connection) (all : List Connection) →
    accepts_connection port r.core ≡ true → name ≡ next_name r.core → ballot ≡ name.ballot → count ≡ name.count →
    c ≡ fresh port name → all ≡ r.core.connections ++ c ∷ [] →
    record r { core = record r.core { last_name = record { ballot = ballot; count = count }; connections = all } }
    ≡ record r { core = with_next_connection port r.core }
unfolding with_next_connection
opened port r name ballot count c all accepted is b n new added =
    rw accepted
    (ap (λ (l : List Connection). record r { core = record r.core { last_name = record { ballot = ballot; count = count }; connections = l } })
    (added ∙ ap (λ (x : Connection). r.core.connections ++ x ∷ []) new)
    ∙ ap (λ (x : ConnectionName). record r { core = record r.core { last_name = x; connections = r.core.connections ++ fresh port name ∷ [] } })
    (as_name name ballot count b n)
    ∙ ap (λ (x : ConnectionName). record r { core = record r.core { last_name = x; connections = r.core.connections ++ fresh port x ∷ [] } }) is)

-- the same for only the node
pub opened_core : (port : Port) (core : CoreState) (name : ConnectionName) (ballot count : ℕ) (c : Connection) (all : List Connection) →
    accepts_connection port core ≡ true → name ≡ next_name core → ballot ≡ name.ballot → count ≡ name.count →
    c ≡ fresh port name → all ≡ core.connections ++ c ∷ [] →
    record core { last_name = record { ballot = ballot; count = count }; connections = all } ≡ with_next_connection port core
opened_core port core name ballot count c all accepted is b n new added =
    ap (λ (r : RunningStep). r.core)
    (opened port (record { core = core; has_lost = false }) name ballot count c all accepted is b n new added)

-- there was no memory for it
pub opened_not : (core : CoreState) (all : List Connection) → all ≡ core.connections → record core { connections = all } ≡ core
opened_not core all same = ap (λ (l : List Connection). record core { connections = l }) same
