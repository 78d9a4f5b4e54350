-- Changes.antt: a change of a connection is done at its index, and if there is none nothing
-- changes.
use Rattle.std.proofs.Common.{◌≡◌, ℕ, Bool, true, false, Option, Some, None, Result, Ok, Err, List, get_or, set, sym, ap, ◌∙◌}
use Rattle.std.specs.List.{position}
use Rattle.std.specs.Result.{is_ok, OnOk}
use Rattle.broker_spec.specs.Connection.{ConnectionName}
use Rattle.world_base.specs.declared.node_connections.port.Port.{Port}
use Rattle.world_base.specs.declared.node_connections.connection.Connection.{Connection}
use Rattle.world_base.specs.node_connections.Connections.{is_open_at, is_open_named}
use Rattle.world_base.specs.node_connections.ConnectionChanges.{changed_where}
use Rattle.world_base.specs.node_core.Core.{CoreState}
use Rattle.world_base.specs.node_core.Inside.{RunningStep}
use Rattle.world_base.specs.node_core.PacketInput.{changes}
use Rattle.world_base.specs.node_core.Effects.{changes_named}
use Rattle.world_base.proofs.of_node_core.Indices.{none_changed, index_changed}

pub there : (test : Connection → Bool) (change : Connection → Connection) (r : RunningStep) (index : Option ℕ) (i : ℕ)
    (c new : Connection) → index ≡ position test r.core.connections → index ≡ Some i →
    c ≡ get_or r.core.connections i c → new ≡ change c →
    record r { core = record r.core { connections = set r.core.connections i new } }
    ≡ record r { core = record r.core { connections = changed_where test change r.core.connections } }
there test change r index i c new at is found e =
    ap (λ (l : List Connection). record r { core = record r.core { connections = l } })
    (ap (λ x. set r.core.connections i x) e
    ∙ sym (index_changed test change r.core.connections i c (sym is ∙ at) found))

nowhere : (test : Connection → Bool) (change : Connection → Connection) (r : RunningStep) (index : Option ℕ) →
    index ≡ position test r.core.connections → index ≡ None →
    r ≡ record r { core = record r.core { connections = changed_where test change r.core.connections } }
nowhere test change r index at is =
    ap (λ (l : List Connection). record r { core = record r.core { connections = l } })
    (sym (none_changed test change r.core.connections (sym is ∙ at)))

pub changed_there : (port : Port) (change : Connection → Connection) (r : RunningStep) (index : Option ℕ) (i : ℕ)
    (c new : Connection) → index ≡ position (is_open_at port) r.core.connections → index ≡ Some i →
    c ≡ get_or r.core.connections i c → new ≡ change c →
    record r { core = record r.core { connections = set r.core.connections i new } }
    ≡ record r { core = changes port change r.core }
unfolding changes
changed_there port change = there (is_open_at port) change

pub changed_nowhere : (port : Port) (change : Connection → Connection) (r : RunningStep) (index : Option ℕ) →
    index ≡ position (is_open_at port) r.core.connections → index ≡ None →
    r ≡ record r { core = changes port change r.core }
unfolding changes
changed_nowhere port change = nowhere (is_open_at port) change

pub named_there : (name : ConnectionName) (change : Connection → Connection) (r : RunningStep) (index : Option ℕ) (i : ℕ)
    (c new : Connection) → index ≡ position (is_open_named name) r.core.connections → index ≡ Some i →
    c ≡ get_or r.core.connections i c → new ≡ change c →
    record r { core = record r.core { connections = set r.core.connections i new } }
    ≡ record r { core = changes_named name change r.core }
unfolding changes_named
named_there name change = there (is_open_named name) change

pub named_nowhere : (name : ConnectionName) (change : Connection → Connection) (r : RunningStep) (index : Option ℕ) →
    index ≡ position (is_open_named name) r.core.connections → index ≡ None →
    r ≡ record r { core = changes_named name change r.core }
unfolding changes_named
named_nowhere name change = nowhere (is_open_named name) change

-- the same for only the node
abbrev as_running : CoreState → RunningStep
as_running core = record { core = core; has_lost = false }

pub core_there : (test : Connection → Bool) (change : Connection → Connection) (core : CoreState) (index : Option ℕ) (i : ℕ)
    (c new : Connection) → index ≡ position test core.connections → index ≡ Some i →
    c ≡ get_or core.connections i c → new ≡ change c →
    record core { connections = set core.connections i new } ≡ record core { connections = changed_where test change core.connections }
core_there test change core index i c new at is found e =
    ap (λ (r : RunningStep). r.core) (there test change (as_running core) index i c new at is found e)

pub core_changed : (port : Port) (change : Connection → Connection) (core : CoreState) (index : Option ℕ) (i : ℕ)
    (c new : Connection) → index ≡ position (is_open_at port) core.connections → index ≡ Some i →
    c ≡ get_or core.connections i c → new ≡ change c →
    record core { connections = set core.connections i new } ≡ changes port change core
core_changed port change core index i c new at is found e =
    ap (λ (r : RunningStep). r.core) (changed_there port change (as_running core) index i c new at is found e)

pub core_unchanged : (port : Port) (change : Connection → Connection) (core : CoreState) (index : Option ℕ) →
    index ≡ position (is_open_at port) core.connections → index ≡ None → core ≡ changes port change core
core_unchanged port change core index at is =
    ap (λ (r : RunningStep). r.core) (changed_nowhere port change (as_running core) index at is)

pub core_named : (name : ConnectionName) (change : Connection → Connection) (core : CoreState) (index : Option ℕ) (i : ℕ)
    (c new : Connection) → index ≡ position (is_open_named name) core.connections → index ≡ Some i →
    c ≡ get_or core.connections i c → new ≡ change c →
    record core { connections = set core.connections i new } ≡ changes_named name change core
core_named name change core index i c new at is found e =
    ap (λ (r : RunningStep). r.core) (named_there name change (as_running core) index i c new at is found e)

pub core_unnamed : (name : ConnectionName) (change : Connection → Connection) (core : CoreState) (index : Option ℕ) →
    index ≡ position (is_open_named name) core.connections → index ≡ None → core ≡ changes_named name change core
core_unnamed name change core index at is =
    ap (λ (r : RunningStep). r.core) (named_nowhere name change (as_running core) index at is)

-- what an answer that is Ok says
pub ok_holds : {E P : Type 0} (result : Result (Unit {0}) E) → is_ok result ≡ true → OnOk result P → P
ok_holds (Ok x) e p = p
ok_holds (Err x) e p = absurd cc
