use Rattle.std.proofs.Common.{[], ap}
use Rattle.ballot_base.proofs.Strangers.{strangers_alike}
use Rattle.broker_base.specs.State.{State}
use Rattle.broker_spec.specs.declared.command.Command.{Command}
use Rattle.ballot_base.specs.Replica.{ReplicaState}
use Rattle.world_base.specs.node_core.Core.{CoreState, rules}
use Rattle.world_base.proofs.node_core.theorems.stranger_nodes_open_alike.Goals as goal

pub returns : goal.returns
returns c id config other out away =
    ap (λ (s : ReplicaState State Command).
    let z : CoreState = record { replica = record { state = s; losses = 0 }; last_name = record { ballot = 0; count = 0 }; connections = [] } in z)
    (strangers_alike rules id config other out away)
