-- What a step of the replica does to a node: outputs are done on connections, messages are sent.
use Rattle.std.specs.Prelude.{ℕ, zero, suc, Bool, ◌&&◌, nat_lt, if◌then◌else◌, List, [], ◌++◌, length, filter}
use Rattle.std.specs.List.{fold}
use Rattle.broker_base.specs.State.{State}
use Rattle.broker_spec.specs.Connection.{ConnectionName}
use Rattle.broker_spec.specs.declared.command.Command.{Command}
use Rattle.broker_spec.specs.declared.command.Output.{Output}
use Rattle.broker_spec.specs.declared.command.Output.TheVariants as outputs
use Rattle.ballot_base.specs.Logs.{places}
use Rattle.ballot_base.specs.declared.message.Effect.{Effect}
use Rattle.ballot_base.specs.declared.message.Effect.TheVariants.{To, Out}
use Rattle.ballot_base.specs.Protocol.{Input, replica_step}
use Rattle.ballot_base.specs.Replica.{ReplicaState}
use Rattle.ballot_base.specs.StepOutcome.{Outcome, is_message, nothing_done}
use Rattle.ballot_base.specs.Service.{proposed, max_places}
use Rattle.world_base.specs.declared.node_connections.connection.Connection.{Connection}
use Rattle.world_base.specs.node_connections.Connections.{is_open_named}
use Rattle.world_base.specs.node_connections.ConnectionChanges.{closed_connection, with_queued, changed_where}
use Rattle.world_base.specs.node_core.Core.{CoreState, StepOutcome, rules, serves}
use Rattle.packet.specs.Spelling.{spelling}

-- the node unchanged, and no message
abbrev pub without_messages : CoreState → StepOutcome
without_messages core = record { core = core; messages = [] }

-- one outcome, then the next
abbrev pub then_also : StepOutcome → (CoreState → StepOutcome) → StepOutcome
then_also first next =
    record {
      core = (next first.core).core;
      messages = first.messages ++ (next first.core).messages;
    }

-- an outcome repeated this many times
unfoldable pub repeated : ℕ → (CoreState → StepOutcome) → CoreState → StepOutcome
repeated zero next core = without_messages core
repeated (suc more) next core = then_also (next core) (repeated more next)

-- ---- outputs

-- a change of the open connection of a name
unfoldable pub changes_named : ConnectionName → (Connection → Connection) → CoreState → CoreState
changes_named name change core =
    record core { connections = changed_where (is_open_named name) change core.connections }

-- an output of the broker is done on its connection; one for a connection that is not open is
-- dropped
abbrev pub performed_by : Output → CoreState → CoreState
performed_by (outputs.Send name packet) core =
    changes_named name (with_queued (spelling packet)) core
performed_by (outputs.Close name) core = changes_named name closed_connection core

-- an effect is done on its connection; a message does nothing to connections
abbrev pub with_effect : CoreState → Effect Command Output → CoreState
with_effect core (Out place output) = performed_by output core
with_effect core (To receiver message) = core

-- the effects of a replica's step are handled at once, in order: outputs are done, messages are
-- sent
abbrev pub handled_all : List (Effect Command Output) → CoreState → StepOutcome
handled_all effects core =
    record { core = fold with_effect core effects; messages = filter is_message effects }

-- a node after a step of its replica: it has the new state, and the effects are handled
abbrev pub after_replica_step : Outcome State Command Output → CoreState → StepOutcome
after_replica_step outcome core =
    handled_all outcome.effects
    (record core { replica = record core.replica { state = outcome.state } })

-- ---- what is given to the replica

-- a command of a client is proposed to it while the node serves clients
unfoldable pub proposes : Command → CoreState → StepOutcome
proposes command core =
    if serves core then after_replica_step (proposed rules core.replica.state command) core
    else without_messages core

-- the replica's step on a message of another node or a tick; one that has stopped does nothing
abbrev pub outcome_of_input : Input Command → ReplicaState State Command →
    Outcome State Command Output
outcome_of_input input replica =
    if replica.stopped then nothing_done Output replica else replica_step rules replica input

-- the replica receives an input, and its effects are done
unfoldable pub drives : Input Command → CoreState → StepOutcome
drives input core = after_replica_step (outcome_of_input input core.replica.state) core

-- whether a proposal is taken: by an active primary whose log has room
abbrev pub has_room : CoreState → Bool
has_room core = serves core && nat_lt (places core.replica.state.log) max_places
