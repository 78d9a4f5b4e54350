-- A node: one replica of the broker with its connections, and how it opens.
use Rattle.std.specs.Prelude.{◌≡◌, ℕ, Bool, List, []}
use Rattle.machine.specs.Machine.{Rules}
use Rattle.broker_base.specs.State.{State}
use Rattle.broker_spec.specs.Connection.{ConnectionName}
use Rattle.broker_spec.specs.declared.command.Command.{Command}
use Rattle.broker_spec.specs.declared.command.Output.{Output}
use Rattle.broker_base.specs.form.BrokerRules.{broker_rules}
use Rattle.ballot_base.specs.declared.config.Config.{Config}
use Rattle.ballot_base.specs.declared.message.Effect.{Effect}
use Rattle.ballot_base.specs.Replica.{CountedReplica, opening, serves_in_role}
use Rattle.ballot_base.specs.Theorems.{IsStranger}
use Rattle.world_base.specs.declared.node_connections.connection.Connection.{Connection}

-- what a node keeps; its connections are in the order in which they were opened
pub record CoreState : Type 0 where
  pub replica : CountedReplica State Command
  -- the name of the connection that it accepted last; number 0 of ballot 0 before the first
  pub last_name : ConnectionName
  pub connections : List Connection

-- a node with the number of its steps in which something was lost (saturates at 2^64 - 1)
pub record CountedCore : Type 0 where
  pub core : CoreState
  pub losses : ℕ

-- a node after something was done, and the messages to other nodes that were sent
pub record StepOutcome : Type 0 where
  pub core : CoreState
  pub messages : List (Effect Command Output)

-- the rules of the machine that a node replicates
abbrev pub rules : Rules State Command Output
rules = broker_rules

-- a new node: the replica opens in ballot 1, and no connection was opened yet
abbrev pub opening_core : ℕ → Config → CoreState
opening_core id config =
    record {
      replica = record { state = opening rules id config; losses = 0 };
      last_name = record { ballot = 0; count = 0 };
      connections = [];
    }

-- a node opens alike in any two configurations that do not name it
abbrev pub StrangerNodesOpenAlike : Type 0
StrangerNodesOpenAlike =
    (id : ℕ) (config other : Config) → IsStranger id config → IsStranger id other →
    opening_core id config ≡ opening_core id other

-- a node serves clients while its replica is the active primary and has not stopped
abbrev pub serves : CoreState → Bool
serves core = serves_in_role core.replica.state.role core.replica.state.stopped
