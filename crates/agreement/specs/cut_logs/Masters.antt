-- The messages of the master in a group whose nodes cut their logs. What it keeps is as on whole
-- logs, and no message of it carries a log.
use Rattle.std.specs.Prelude.{ℕ, ◌+◌, Option, if◌then◌else◌}
use Rattle.agreement.specs.MasterState.{MasterState, activating, assigning, is_granted}
use Rattle.ballot_base.specs.declared.config.Config.{Config}
use Rattle.ballot_base.specs.declared.message.Body.{Body}
use Rattle.ballot_base.specs.declared.message.Body.TheVariants.{NewBallot, Activated}
use Rattle.ballot_base.specs.declared.message.Body.TheVariants.{Superseded}

-- what the master is after a step, and the message that it sends with its receiver
pub record MasterOutcome (C : Type 0) : Type 0 where
  pub state : MasterState
  pub receiver : ℕ
  pub body : Body C

-- Assign: a message to the primary with the ballot
abbrev pub assigned : (C : Type 0) → MasterState → Config → MasterOutcome C
assigned C master config =
    record {
      state = assigning master config;
      receiver = config.primary;
      body = NewBallot (master.given + 1) config.members master.active master.members;
    }

-- Activate(ballot) from a node, which is answered
abbrev pub activated : (C : Type 0) →
    MasterState → ℕ → ℕ → Option (ℕ × Config) → MasterOutcome C
activated C master ballot from waiting =
    record {
      state = activating master ballot waiting;
      receiver = from;
      body = if is_granted master ballot waiting then Activated ballot else Superseded ballot;
    }
