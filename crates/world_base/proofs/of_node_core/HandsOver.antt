-- HandsOver.antt: what was queued is handed over at the index of its connection.
use Rattle.std.proofs.Common.{◌≡◌, ℕ, Option, Some, None, List, get_or, set, refl, sym, ap, ◌∙◌}
use Rattle.std.specs.List.{position, filter}
use Rattle.world_base.specs.declared.node_connections.port.Port.{Port}
use Rattle.world_base.specs.declared.node_connections.connection.Connection.{Connection}
use Rattle.world_base.specs.node_connections.Connections.{is_at, is_listed}
use Rattle.world_base.specs.node_connections.ConnectionChanges.{nothing_pending}
use Rattle.world_base.specs.node_core.PortOutput.{hands_over, listed_at}
use Rattle.world_base.specs.node_core.Inside.{RunningStep}
use Rattle.world_base.proofs.of_node_core.Indices.{index_changed}

pub handed_none : (port : Port) (r : RunningStep) → listed_at port r.core ≡ None → r ≡ record r { core = hands_over port r.core }
unfolding hands_over
handed_none port r none = rw none refl

pub handed_there : (port : Port) (r : RunningStep) (index : Option ℕ) (i : ℕ) (c new : Connection) (left : List Connection) →
    index ≡ position (is_at port) r.core.connections → index ≡ Some i → c ≡ get_or r.core.connections i c →
    listed_at port r.core ≡ Some c → new ≡ nothing_pending c → left ≡ filter is_listed (set r.core.connections i new) →
    record r { core = record r.core { connections = left } } ≡ record r { core = hands_over port r.core }
unfolding hands_over
handed_there port r index i c new left at is here found e kept =
    rw found
    (ap (λ (l : List Connection). record r { core = record r.core { connections = l } })
    (kept ∙ ap (filter is_listed)
    (ap (λ x. set r.core.connections i x) e
    ∙ sym (index_changed (is_at port) nothing_pending r.core.connections i c (sym is ∙ at) here))))
