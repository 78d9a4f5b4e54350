-- What one item may do to a node if memory may run out: the step, except the parts for which memory
-- ran out.
use Rattle.std.specs.Prelude.{◌≡◌, ◌⊎◌, ℕ, true, false, List, length, Some}
use Rattle.broker_spec.specs.declared.command.Command.{Command}
use Rattle.broker_spec.specs.declared.command.Command.TheVariants as commands
use Rattle.broker_spec.specs.declared.command.Output.{Output}
use Rattle.ballot_base.specs.declared.message.Effect.{Effect}
use Rattle.ballot_base.specs.Protocol.Input.{Receives, Ticks}
use Rattle.world_base.specs.declared.node_connections.port.Port.{Port}
use Rattle.world_base.specs.declared.node_core.item.Item.{Item}
use Rattle.world_base.specs.declared.node_core.item.Item.TheVariants.{Peer, Tick, Opened, Bytes, Ended, Expel, Cut, Crash}
use Rattle.world_base.specs.node_connections.ConnectionChanges.{with_unread}
use Rattle.ballot_base.specs.Compaction.{can_cut}
use Rattle.ballot_base.specs.Losses.{one_more}
use Rattle.world_base.specs.node_core.Core.{CoreState, rules}
use Rattle.world_base.specs.node_core.Lossy.{Account, Drives, Repeated, Then, without_effects}
use Rattle.world_base.specs.node_core.LossyProposals.{ProposesCommand}
use Rattle.world_base.specs.node_core.PacketInput.{changes, open_at, unread_of}
use Rattle.world_base.specs.node_core.Step.{crashed, with_next_connection, settled, with_cut}
use Rattle.world_base.specs.node_core.LossyEndings.{EndsConnection, EndsSilent, ReportsFailed}
use Rattle.world_base.specs.node_core.LossyPacketInput.{ReadsNext}

-- ---- an item

-- received bytes are held, or the connection ends, because there is no memory for them
abbrev pub HoldsBytes : Port → List ℕ → CoreState → Account → Type 0
HoldsBytes port piece core account =
    (account ≡ without_effects (changes port (with_unread piece) core))
    ⊎ EndsConnection port core account

-- a connection is accepted, or, if there is no memory for it, not
abbrev pub AcceptsConnection : Port → CoreState → Account → Type 0
AcceptsConnection port core account =
    (account ≡ without_effects (with_next_connection port core)) ⊎ (account ≡ without_effects core)

-- the replica cuts its log, and its frozen bytes thaw to its machine; or, if there is no memory for
-- that, it counts a loss
pub data LogCutOrLost (core : CoreState) (account : Account) : Type 0 where
  -- nothing is to be cut
  nothing_to_cut : can_cut core.replica.state ≡ false → account ≡ without_effects core →
      LogCutOrLost core account
  -- the log is cut
  cuts_log : can_cut core.replica.state ≡ true →
      rules.thawed (rules.frozen core.replica.state.machine) ≡ Some core.replica.state.machine →
      account ≡ without_effects (with_cut core) → LogCutOrLost core account
  -- memory ran out: a loss is counted
  forgets_cut : can_cut core.replica.state ≡ true →
      account ≡ without_effects
      (record core { replica = record core.replica { losses = one_more core.replica.losses } }) →
      LogCutOrLost core account

-- all silent connections are closed, one after another
abbrev pub EndsAllSilent : ℕ → CoreState → Account → Type 0
EndsAllSilent now core account = Repeated (length core.connections) (EndsSilent now) core account

-- the loss of each connection that failed is reported, or memory ran out for that
abbrev pub ReportsAllFailed : CoreState → Account → Type 0
ReportsAllFailed core account = Repeated (length core.connections) ReportsFailed core account

-- the packets of a port are read, one after another, at most as many as it has bytes
abbrev pub ReadsPackets : ℕ → Port → CoreState → Account → Type 0
ReadsPackets now port core account =
    Repeated (unread_of (open_at port core)) (ReadsNext now port) core account

-- what an item asks for, without the reports of connections that failed in the step
abbrev pub DoesItem : Item → CoreState → Account → Type 0
DoesItem (Peer message) core account = Drives (Receives message) core account
DoesItem (Tick now) core account = Then (Drives Ticks) (EndsAllSilent now) core account
DoesItem (Opened port now) core account = AcceptsConnection port core account
DoesItem (Bytes port piece now) core account =
    Then (HoldsBytes port piece) (ReadsPackets now port) core account
DoesItem (Ended port) core account = EndsConnection port core account
DoesItem (Expel client) core account = ProposesCommand (commands.Expel client) core account
DoesItem Cut core account = LogCutOrLost core account
DoesItem Crash core account = account ≡ without_effects (crashed core)

-- what an item asks for, and then the reports of connections that failed in the step
abbrev pub ActsOn : Item → CoreState → Account → Type 0
ActsOn item core account = Then (DoesItem item) ReportsAllFailed core account

-- a step on an item: what was done, and how connections were settled after it
pub record RunsOn (item : Item) (old new : CoreState)
    (messages : List (Effect Command Output)) : Type 0 where
  pub account : Account
  pub acts : ActsOn item old account
  pub settles : new ≡ settled account.core
  pub handed : messages ≡ account.messages
