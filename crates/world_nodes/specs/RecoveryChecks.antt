-- Conditions of a recovery: the whole log of a node, and whether a client's session exists after
-- it.
use Rattle.std.specs.Prelude.{ℕ, Bool, false, List, [], ◌∷◌, ◌++◌, Option, Some, None}
use Rattle.machine.specs.Machine.{replay}
use Rattle.agreement.specs.cut_logs.Whole.{whole_log}
use Rattle.packet.specs.declared.connack.Connack.TheVariants.{Accepted}
use Rattle.packet.specs.declared.packet.Packet.TheVariants.{Connack}
use Rattle.broker_spec.specs.declared.command.Command.{Command}
use Rattle.broker_spec.specs.declared.command.Command.TheVariants as commands
use Rattle.broker_spec.specs.Connection.{first_connection}
use Rattle.broker_spec.specs.declared.command.Output.{Output}
use Rattle.broker_spec.specs.declared.command.Output.TheVariants.{Send}
use Rattle.broker_spec.specs.Place.{Client}
use Rattle.world_base.specs.node_core.Core.{CountedCore, rules}
use Rattle.world_nodes.specs.RunningNodes.{numbered_node}
use Rattle.world_nodes.specs.Nodes.{NodesState}

-- the record up to the base of a node's log, then the rest
abbrev pub whole_log_in : List Command → Option CountedCore → List Command
whole_log_in archive None = []
whole_log_in archive (Some node) = whole_log archive node.core.replica.state.log

-- the whole log of the node of a number
abbrev pub whole_log_of : NodesState → ℕ → List Command
whole_log_of state node = whole_log_in state.archive (numbered_node state.nodes node)

-- whether an output is a CONNACK 0 with session present
abbrev pub is_present : Output → Bool
is_present (Send connection (Connack (Accepted present))) = present
is_present _ = false

-- whether the first of these outputs is a CONNACK 0 with session present
abbrev pub is_welcome : List Output → Bool
is_welcome [] = false
is_welcome (output ∷ more) = is_present output

-- whether a client's CONNECT is answered with session present after these commands and the start of
-- a ballot (MQTT 3.1.2.4, 3.2.2.2)
abbrev pub welcomes_back : Client → List Command → Bool
welcomes_back client list =
    is_welcome (rules.gives (replay rules (list ++ commands.Start 1 ∷ []))
    (commands.Connect first_connection client false))
