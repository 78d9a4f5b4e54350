-- Names when memory may run out: no two connections of a node have the same name, and no name comes
-- twice.
use Rattle.std.specs.Prelude.{◌≡◌, ℕ, List, None}
use Rattle.ballot_base.specs.declared.config.Config.{Config}
use Rattle.ballot_base.specs.declared.message.Effect.{Effect}
use Rattle.broker_spec.specs.declared.command.Command.{Command}
use Rattle.broker_spec.specs.Connection.{ConnectionName}
use Rattle.broker_spec.specs.declared.command.Output.{Output}
use Rattle.world_base.specs.declared.node_core.item.Item.{Item}
use Rattle.world_base.specs.declared.node_connections.port.Port.{Port}
use Rattle.world_base.specs.node_core.Core.{CoreState, opening_core}
use Rattle.world_base.specs.node_core.PortOutput.{hands_over}
use Rattle.world_base.specs.node_core.LossyStep.{RunsOn}
use Rattle.headline.specs.node_moves.Closed.{listed_named}
use Rattle.headline.specs.node_moves.Ends.{IsGiven, IsOrderly}

-- No two connections have one name. One that was given stays so, and if no connection has it, none
-- gets it any more.
pub record KeepsNames (core later : CoreState) : Type 0 where
  pub orderly : IsOrderly later
  pub given : (name : ConnectionName) → IsGiven core.last_name name → IsGiven later.last_name name
  pub gone : (name : ConnectionName) → IsGiven core.last_name name → listed_named name core ≡ None →
      listed_named name later ≡ None

-- a node gives no name twice, from the opening on, in each step, even if memory runs out, and when
-- bytes are handed over
pub record NamesComeOnce : Type 0 where
  pub opens : (id : ℕ) (config : Config) → IsOrderly (opening_core id config)
  pub steps : (item : Item) (core later : CoreState) (messages : List (Effect Command Output)) →
      RunsOn item core later messages → IsOrderly core → KeepsNames core later
  pub hands : (port : Port) (core : CoreState) → IsOrderly core →
      KeepsNames core (hands_over port core)
