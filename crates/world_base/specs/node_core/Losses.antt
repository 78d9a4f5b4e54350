-- How steps with losses are counted, and which steps never are.
use Rattle.std.specs.Prelude.{◌≡◌, ◌⊎◌, Bool, false, List, [], ◌++◌, Option, Some, None}
use Rattle.std.specs.List.{find}
use Rattle.lists.specs.Lists.{Each}
use Rattle.broker_spec.specs.declared.command.Command.{Command}
use Rattle.broker_spec.specs.declared.command.Output.{Output}
use Rattle.ballot_base.specs.declared.message.Effect.{Effect}
use Rattle.ballot_base.specs.Compaction.{can_cut}
use Rattle.ballot_base.specs.Losses.{SendsAndAddsNothing, one_more}
use Rattle.ballot_base.specs.Protocol.{Input}
use Rattle.ballot_base.specs.Protocol.Input.{Receives, Ticks}
use Rattle.ballot_base.specs.StepOutcome.{nothing_done}
use Rattle.world_base.specs.declared.node_core.item.Item.{Item}
use Rattle.world_base.specs.declared.node_core.item.Item.TheVariants.{Peer, Tick, Opened, Bytes, Ended, Expel, Cut, Crash}
use Rattle.world_base.specs.declared.node_connections.connection.Connection.{Connection}
use Rattle.world_base.specs.node_connections.Connections.{has_failed, is_proposed}
use Rattle.ballot_base.specs.declared.message.Message.{Message}
use Rattle.ballot_base.specs.Unread.{is_unread}
use Rattle.world_base.specs.node_core.Core.{CoreState, CountedCore, StepOutcome, rules}
use Rattle.world_base.specs.node_connections.Silent.{lowest_silent}
use Rattle.world_base.specs.node_core.LossyStep.{RunsOn}
use Rattle.world_base.specs.node_core.PacketInput.{open_at}
use Rattle.world_base.specs.node_core.Step.{accepts_connection, node_step}
use Rattle.world_base.specs.node_core.Effects.{has_room, outcome_of_input}

-- ---- what does nothing

-- by the protocol the replica does nothing with its input, as if it has stopped
abbrev pub IsIgnored : Input Command → CoreState → Type 0
IsIgnored input core = outcome_of_input input core.replica.state
    ≡ nothing_done Output core.replica.state

-- a node does not have to read a snapshot that does not thaw
abbrev pub ReadsNone : Message Command → CoreState → Type 0
ReadsNone message core =
    core.replica.state.stopped ≡ false → is_unread rules core.replica.state message.body ≡ false

-- by the definitions an item does nothing: the replica ignores it, no connection is silent, none is
-- accepted, none is open at that port, no proposal is taken, or there is nothing to cut
abbrev pub DoesNothing : Item → CoreState → Type 0
DoesNothing (Peer message) core = IsIgnored (Receives message) core × ReadsNone message core
DoesNothing (Tick now) core = IsIgnored Ticks core × (lowest_silent now core.connections ≡ None)
DoesNothing (Opened port now) core = accepts_connection port core ≡ false
DoesNothing (Bytes port piece now) core = open_at port core ≡ None
DoesNothing (Ended port) core = open_at port core ≡ None
DoesNothing (Expel client) core = has_room core ≡ false
DoesNothing Cut core = can_cut core.replica.state ≡ false
DoesNothing Crash core = ⊥

-- whether the CONNECT of a connection was proposed, and it is open
abbrev pub was_proposed : Option Connection → Bool
was_proposed None = false
was_proposed (Some connection) = is_proposed connection.stage

-- By the protocol the message makes the replica send nothing, append nothing and apply nothing,
-- though it may learn what a member holds, that a member no longer lacks the log, or that its
-- ballot was superseded.
abbrev pub IsHeardQuietly : Message Command → CoreState → Type 0
IsHeardQuietly message core =
    SendsAndAddsNothing core.replica.state (outcome_of_input (Receives message) core.replica.state)

-- An item takes no memory if it does nothing. The same holds for a message that is heard quietly
-- (`IsHeardQuietly`), a crash, and the end of a connection whose CONNECT was not proposed: that
-- connection is only closed.
abbrev pub ItemTakesNoMemory : Item → CoreState → Type 0
ItemTakesNoMemory (Peer message) core =
    (IsIgnored (Receives message) core ⊎ IsHeardQuietly message core) × ReadsNone message core
ItemTakesNoMemory (Ended port) core = was_proposed (open_at port core) ≡ false
ItemTakesNoMemory Crash core = Unit {0}
ItemTakesNoMemory item core = DoesNothing item core

-- no connection has pending output
abbrev pub WaitsNothing : CoreState → Type 0
WaitsNothing core = Each (λ (connection : Connection). connection.pending ≡ []) core.connections

-- ---- what is counted

-- the state, the messages and the count of losses are those of the step
abbrev pub IsExactly : CountedCore → StepOutcome → CountedCore → List (Effect Command Output) →
    Type 0
IsExactly old outcome new given =
    (new.core ≡ outcome.core) × (given ≡ outcome.messages) × (new.losses ≡ old.losses)

-- the step was done exactly, or with losses that were counted
abbrev pub NodeStepOrLost : CountedCore → StepOutcome → CountedCore → List (Effect Command Output) →
    Type 0
NodeStepOrLost old outcome new given =
    IsExactly old outcome new given ⊎ (new.losses ≡ one_more old.losses)

-- The messages of a step were appended, and the step was exact or counted. One on an item that
-- takes no memory is never counted, unless a failed connection is still to be reported to the
-- broker. In any case it did no more than a step may do when memory runs out.
pub record ItemStepOrLost (old : CountedCore) (item : Item) (new : CountedCore)
    (before after : List (Effect Command Output)) : Type 0 where
  pub given : List (Effect Command Output)
  pub appended : after ≡ before ++ given
  pub steps : NodeStepOrLost old (node_step item old.core) new given
  pub uncounted : ItemTakesNoMemory item old.core → find has_failed old.core.connections ≡ None →
      IsExactly old (node_step item old.core) new given
  pub run : RunsOn item old.core new.core given
