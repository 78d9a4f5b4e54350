-- What is done with a proposal if memory may run out: it is taken, or the replica declines it.
use Rattle.std.specs.Prelude.{◌≡◌, ◌⊎◌, true, false}
use Rattle.broker_spec.specs.declared.command.Command.{Command}
use Rattle.ballot_base.specs.Losses.{halted, one_more}
use Rattle.ballot_base.specs.Service.{proposed}
use Rattle.world_base.specs.node_core.Core.{CoreState, rules, serves}
use Rattle.world_base.specs.node_core.Effects.{has_room}
use Rattle.world_base.specs.node_core.Lossy.{Account, without_effects, HandledStepOrLost, TakesCommand}

-- a command that it does not take, because it does not serve clients or its log is full, or because
-- memory ran out: then it counts a loss, and may stop
pub data Declines (core : CoreState) (account : Account) : Type 0 where
  -- it serves no clients, or its log is full: nothing changes
  no_room : has_room core ≡ false → account ≡ without_effects core → Declines core account
  -- memory ran out: it counts a loss
  forgets : has_room core ≡ true →
      account ≡ without_effects
      (record core { replica = record core.replica { losses = one_more core.replica.losses } }) →
      Declines core account
  -- memory ran out: it counts a loss, and it stops
  stops : has_room core ≡ true →
      account ≡ without_effects (record core {
        replica = record {
          state = halted rules core.replica.state;
          losses = one_more core.replica.losses;
        };
      }) →
      Declines core account

-- a command is proposed to the replica
abbrev pub ProposesCommand : Command → CoreState → Account → Type 0
ProposesCommand command core account = TakesCommand command core account ⊎ Declines core account

-- a proposal is a step of the replica, exact or with losses; if the node does not serve clients, it
-- is no step
abbrev pub ProposalsAreSteps : Type 0
ProposalsAreSteps =
    (command : Command) (core : CoreState) (account : Account) →
    ProposesCommand command core account →
    (serves core ≡ true →
    HandledStepOrLost (proposed rules core.replica.state command) core account)
    × (serves core ≡ false → account ≡ without_effects core)
