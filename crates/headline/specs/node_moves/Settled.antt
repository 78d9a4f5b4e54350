-- What is not left after a step of a node.
use Rattle.std.specs.Prelude.{◌≡◌, ℕ, false}
use Rattle.lists.specs.Lists.{Each}
use Rattle.world_base.specs.declared.node_core.item.Item.{Item}
use Rattle.world_base.specs.declared.node_core.item.Item.TheVariants.{Tick}
use Rattle.world_base.specs.declared.node_connections.connection.Connection.{Connection}
use Rattle.world_base.specs.node_connections.Connections.{is_silent, has_failed}
use Rattle.world_base.specs.node_core.Core.{CoreState}
use Rattle.world_base.specs.node_core.Step.{node_step}

-- after a tick no connection is silent
abbrev pub NoneIsSilent : Type 0
NoneIsSilent =
    (now : ℕ) (core : CoreState) →
    Each (λ (connection : Connection). is_silent now connection ≡ false)
    (node_step (Tick now) core).core.connections

-- after a step there is no connection whose loss is still to be reported to the broker
abbrev pub EachLossIsReported : Type 0
EachLossIsReported =
    (item : Item) (core : CoreState) →
    Each (λ (connection : Connection). has_failed connection ≡ false)
    (node_step item core).core.connections
