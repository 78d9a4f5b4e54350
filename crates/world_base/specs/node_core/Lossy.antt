-- What is given to the replica when memory may run out, and what happens to its effects.
use Rattle.std.specs.Prelude.{◌≡◌, ◌⊎◌, ℕ, zero, suc, true, List, [], ◌∷◌, ◌++◌}
use Rattle.broker_base.specs.State.{State}
use Rattle.broker_spec.specs.declared.command.Command.{Command}
use Rattle.broker_spec.specs.declared.command.Output.{Output}
use Rattle.broker_spec.specs.declared.command.Output.TheVariants as outputs
use Rattle.ballot_base.specs.declared.message.Effect.{Effect}
use Rattle.ballot_base.specs.declared.message.Effect.TheVariants.{To, Out}
use Rattle.ballot_base.specs.declared.message.Message.{Message}
use Rattle.ballot_base.specs.Losses.{ReplicaStepOrLost, StepMessagesOrLost}
use Rattle.ballot_base.specs.Protocol.{Input}
use Rattle.ballot_base.specs.Replica.{CountedReplica}
use Rattle.ballot_base.specs.StepOutcome.{Outcome}
use Rattle.ballot_base.specs.Service.{added}
use Rattle.world_base.specs.node_connections.ConnectionChanges.{failing}
use Rattle.world_base.specs.node_core.Core.{CoreState, rules}
use Rattle.world_base.specs.node_core.Effects.{changes_named, has_room, outcome_of_input, performed_by}

-- ---- what was done

-- a node after something was done, all effects of its replica meanwhile, and its messages that were
-- sent
pub record Account : Type 0 where
  pub core : CoreState
  pub given : List (Effect Command Output)
  pub messages : List (Effect Command Output)

-- the replica had no effects
abbrev pub without_effects : CoreState → Account
without_effects core = record { core = core; given = []; messages = [] }

-- one account, followed by another
abbrev pub both_accounts : Account → Account → Account
both_accounts one two =
    record {
      core = two.core;
      given = one.given ++ two.given;
      messages = one.messages ++ two.messages;
    }

-- one thing was done, and then another
pub record Then (First Next : CoreState → Account → Type 0) (core : CoreState)
    (account : Account) : Type 0 where
  pub one : Account
  pub two : Account
  pub first : First core one
  pub next : Next one.core two
  pub is : account ≡ both_accounts one two

-- one thing was done this many times, each after the one before
abbrev pub Repeated : ℕ → (CoreState → Account → Type 0) → CoreState → Account → Type 0
Repeated zero Next core account = account ≡ without_effects core
Repeated (suc more) Next core account = Then Next (Repeated more Next) core account

-- ---- outputs

-- an output is done on its connection; if there is no memory for its bytes that connection is
-- closed as lost
abbrev pub Performs : Output → CoreState → CoreState → Type 0
Performs (outputs.Send name packet) core new =
    (new ≡ performed_by (outputs.Send name packet) core) ⊎ (new ≡ changes_named name failing core)
Performs (outputs.Close name) core new = new ≡ performed_by (outputs.Close name) core

-- the effects of the replica are handled at once, in order: outputs are done, messages are sent or,
-- if there is no memory for one, lost
pub data HandlesAll : List (Effect Command Output) → CoreState → CoreState →
    List (Effect Command Output) → Type 0 where
  -- no effect is left
  nothing : {core : CoreState} → HandlesAll [] core core []
  -- an output is done
  does : {place : ℕ} {output : Output} {core next new : CoreState}
      {given messages : List (Effect Command Output)} →
      Performs output core next → HandlesAll given next new messages →
      HandlesAll (Out place output ∷ given) core new messages
  -- a message is sent
  sends : {receiver : ℕ} {message : Message Command} {core new : CoreState}
      {given messages : List (Effect Command Output)} →
      HandlesAll given core new messages →
      HandlesAll (To receiver message ∷ given) core new (To receiver message ∷ messages)
  -- a message is lost
  loses : {receiver : ℕ} {message : Message Command} {core new : CoreState}
      {given messages : List (Effect Command Output)} →
      HandlesAll given core new messages →
      HandlesAll (To receiver message ∷ given) core new messages

-- ---- what is given to the replica

-- the replica does its step, exactly or with losses that it counts, and its effects are handled
pub record HandledStepOrLost (outcome : Outcome State Command Output) (core : CoreState)
    (account : Account) : Type 0 where
  pub replica : CountedReplica State Command
  pub steps : ReplicaStepOrLost rules core.replica outcome replica account.given
  pub handles : HandlesAll account.given (record core { replica = replica })
      account.core account.messages

-- a message of another node, or a tick
abbrev pub Drives : Input Command → CoreState → Account → Type 0
Drives input core account =
    HandledStepOrLost (outcome_of_input input core.replica.state) core account

-- a command that the replica takes into its log; some of the messages that it then sends may be
-- missing, which it counts
pub record TakesCommand (command : Command) (core : CoreState) (account : Account) : Type 0 where
  pub room : has_room core ≡ true
  pub replica : CountedReplica State Command
  pub done : StepMessagesOrLost core.replica (added rules core.replica.state command) replica []
      account.given
  pub handles : HandlesAll account.given (record core { replica = replica })
      account.core account.messages
