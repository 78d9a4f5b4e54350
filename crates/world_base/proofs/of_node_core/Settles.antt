-- Settles.antt: what is done to the list at the end of a step.
use Rattle.std.proofs.Common.{◌≡◌, true, false, List, map, ap, ◌∙◌}
use Rattle.std.specs.List.{filter}
use Rattle.world_base.specs.declared.node_connections.connection.Connection.{Connection}
use Rattle.world_base.specs.node_connections.Connections.{is_listed}
use Rattle.world_base.specs.node_connections.ConnectionChanges.{closed_connection}
use Rattle.world_base.specs.node_core.Core.{serves}
use Rattle.world_base.specs.node_core.Inside.{RunningStep}
use Rattle.world_base.specs.node_core.Step.{settled}

pub settles-idle : (r : RunningStep) (mid new : List Connection) → serves r.core ≡ false →
    mid ≡ map closed_connection r.core.connections → new ≡ filter is_listed mid →
    record r { core = record r.core { connections = new } } ≡ record r { core = settled r.core }
unfolding settled
settles-idle r mid new idle all kept =
    rw idle (ap (λ (l : List Connection). record r { core = record r.core { connections = l } }) (kept ∙ ap (filter is_listed) all))

pub settles-serving : (r : RunningStep) (new : List Connection) → serves r.core ≡ true →
    new ≡ filter is_listed r.core.connections →
    record r { core = record r.core { connections = new } } ≡ record r { core = settled r.core }
unfolding settled
settles-serving r new serving kept =
    rw serving (ap (λ (l : List Connection). record r { core = record r.core { connections = l } }) kept)
