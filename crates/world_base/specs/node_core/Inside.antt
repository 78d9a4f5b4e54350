-- Definitions for the private functions of a step.
use Rattle.std.specs.Prelude.{◌≡◌, Bool, true, false, List, [], ◌++◌, None}
use Rattle.std.specs.List.{find}
use Rattle.broker_base.specs.State.{State}
use Rattle.broker_spec.specs.Connection.{ConnectionName}
use Rattle.broker_spec.specs.declared.command.Command.{Command}
use Rattle.broker_spec.specs.declared.command.Command.TheVariants as commands
use Rattle.broker_spec.specs.declared.command.Output.{Output}
use Rattle.ballot_base.specs.declared.message.Effect.{Effect}
use Rattle.ballot_base.specs.Losses.{ReplicaStepOrLost, StepMessagesOrLost}
use Rattle.ballot_base.specs.Replica.{CountedReplica}
use Rattle.ballot_base.specs.StepOutcome.{Outcome}
use Rattle.ballot_base.specs.Service.{added}
use Rattle.packet.specs.declared.packet.Packet.{Packet}
use Rattle.world_base.specs.node_core.Core.{CoreState, StepOutcome, rules}
use Rattle.world_base.specs.declared.node_connections.port.Port.{Port}
use Rattle.world_base.specs.node_connections.Connections.{has_failed}
use Rattle.world_base.specs.node_core.LossyPacketInput.{TakesFirstPacket, ProposesPacket}
use Rattle.world_base.specs.node_core.Lossy.{Account, HandlesAll, TakesCommand, without_effects}
use Rattle.world_base.specs.node_core.LossyProposals.{Declines, ProposesCommand}
use Rattle.world_base.specs.node_core.Effects.{has_room}

-- a node during a step, and whether something was lost in it
pub record RunningStep : Type 0 where
  pub core : CoreState
  pub has_lost : Bool

-- nothing was lost, and no connection failed
pub record WithoutFailure (old new : RunningStep) : Type 0 where
  pub has_lost : new.has_lost ≡ old.has_lost
  pub failed : find has_failed old.core.connections ≡ None →
      find has_failed new.core.connections ≡ None

-- exactly this was done, unless something was lost
abbrev pub DoesExactly : RunningStep → RunningStep → CoreState → Type 0
DoesExactly old new core = new.has_lost ≡ false → new ≡ record old { core = core }

-- exactly this was done, unless something was lost; its messages were appended
pub record DoesOutcome (old new : RunningStep) (before after : List (Effect Command Output))
    (done : StepOutcome) : Type 0 where
  pub given : List (Effect Command Output)
  pub appended : after ≡ before ++ given
  pub exact : new.has_lost ≡ false →
      (new ≡ record old { core = done.core }) × (given ≡ done.messages)

-- a step of the replica only
abbrev pub StepsReplica : RunningStep → RunningStep →
    Outcome State Command Output → List (Effect Command Output) → Type 0
StepsReplica old new outcome given = new.has_lost ≡ false →
    (new ≡ record old {
      core = record old.core {
        replica = record old.core.replica { state = outcome.state };
      };
    })
    × (given ≡ outcome.effects)

-- a part of a step was done, exactly or with losses; the messages that were sent were appended to
-- what was there
pub record StepPartOrLost (DoesPart : CoreState → Account → Type 0) (old new : CoreState)
    (before after : List (Effect Command Output)) : Type 0 where
  pub account : Account
  pub runs : DoesPart old account
  pub core : new ≡ account.core
  pub appended : after ≡ before ++ account.messages

-- what the replica output was done; the messages among it were appended to what was there
pub record HandledAll (given : List (Effect Command Output)) (old new : CoreState)
    (before after : List (Effect Command Output)) : Type 0 where
  pub messages : List (Effect Command Output)
  pub handles : HandlesAll given old new messages
  pub appended : after ≡ before ++ messages

-- a step of the replica only, which it did exactly or with losses that it counted
pub record NodeReplicaStepOrLost (outcome : Outcome State Command Output) (old new : CoreState)
    (given : List (Effect Command Output)) : Type 0 where
  pub replica : CountedReplica State Command
  pub core : new ≡ record old { replica = replica }
  pub steps : ReplicaStepOrLost rules old.replica outcome replica given

-- a command that was proposed to the replica only, with its answer
pub record Took (command : Command) (old new : CoreState)
    (given : List (Effect Command Output)) : Type 0 where
  pub room : has_room old ≡ true
  pub replica : CountedReplica State Command
  pub core : new ≡ record old { replica = replica }
  pub done : StepMessagesOrLost old.replica (added rules old.replica.state command) replica [] given

-- the replica took the command, or declined it and returned nothing
abbrev pub Answered : Bool → Command → CoreState → CoreState → List (Effect Command Output) → Type 0
Answered true command old new given = Took command old new given
Answered false command old new given = Declines old (without_effects new) × (given ≡ [])

-- a command was taken with its effects, or declined
abbrev pub ProposedBy : Bool → Command → CoreState → Account → Type 0
ProposedBy true command core account = TakesCommand command core account
ProposedBy false command core account = Declines core account

-- a packet that was read is the first of its connection, or a later one
abbrev pub TakesPacket : Bool → Port → ConnectionName → Packet → CoreState → Account → Type 0
TakesPacket true port name packet core account = TakesFirstPacket port name packet core account
TakesPacket false port name packet core account = ProposesPacket port name packet core account

-- a connection that was closed; it is reported to the broker if its CONNECT was proposed
abbrev pub ReportsLost : Bool → ConnectionName → CoreState → Account → Type 0
ReportsLost true name core account = ProposesCommand (commands.Lost name) core account
ReportsLost false name core account = account ≡ without_effects core
