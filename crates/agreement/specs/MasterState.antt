-- What the master keeps, and what it does on Assign and Activate.
pub use Rattle.machine.specs.Ballots.{max_ballot}
use Rattle.std.specs.Prelude.{ℕ, Bool, true, ◌+◌, ◌==◌, List, Option, Some, None, if◌then◌else◌}
use Rattle.std.specs.Prelude.{nat_le}
use Rattle.ballot_base.specs.declared.config.Config.{Config}
use Rattle.ballot_base.specs.LawfulConfig.{is_lawful}
use Rattle.agreement.specs.whole_logs.Messages.{Body}
use Rattle.agreement.specs.whole_logs.Messages.Body.{NewBallot, Activated, Superseded}

-- the greatest number that a member may have, the active ballot and its members, the ballot that
-- waits to be activated, and how many were given
pub record MasterState : Type 0 where
  pub greatest : ℕ
  pub active : ℕ
  pub members : List ℕ
  pub waiting : Option (ℕ × Config)
  pub given : ℕ

-- as a group opens: ballot 1 is active, and none waits
abbrev pub opening_master : ℕ → Config → MasterState
opening_master greatest config =
    record {
      greatest = greatest;
      active = 1;
      members = config.members;
      waiting = None;
      given = 1;
    }

-- what the master is after a step, and the message that it sends with its receiver
pub record MasterOutcome (C : Type 0) : Type 0 where
  pub state : MasterState
  pub receiver : ℕ
  pub body : Body C

-- the master after an Assign: the next ballot waits, and one that waited is superseded
abbrev pub assigning : MasterState → Config → MasterState
assigning master config =
    record master { waiting = Some (master.given + 1, config); given = master.given + 1 }

-- the master after an Activate: the ballot that waits becomes the active one
abbrev pub activating : MasterState → ℕ → Option (ℕ × Config) → MasterState
activating master ballot None = master
activating master ballot (Some (waiting, config)) =
    if ballot == waiting
    then record master { active = ballot; members = config.members; waiting = None }
    else master

-- whether Activate is answered with Activated: the ballot waited, or is active already. Any other
-- was superseded.
abbrev pub is_granted : MasterState → ℕ → Option (ℕ × Config) → Bool
is_granted master ballot None = ballot == master.active
is_granted master ballot (Some (waiting, config)) =
    if ballot == waiting then true else ballot == master.active

-- Assign: NewBallot goes to the primary of the configuration
abbrev pub assigned : (C : Type 0) → MasterState → Config → MasterOutcome C
assigned C master config =
    record {
      state = assigning master config;
      receiver = config.primary;
      body = NewBallot (master.given + 1) config.members master.active master.members;
    }

-- Activate(ballot) from a node, which is answered
abbrev pub activated : (C : Type 0) →
    MasterState → ℕ → ℕ → Option (ℕ × Config) → MasterOutcome C
activated C master ballot from waiting =
    record {
      state = activating master ballot waiting;
      receiver = from;
      body = if is_granted master ballot waiting then Activated ballot else Superseded ballot;
    }

-- why the master refuses an Assign
pub data AssignRefusal : Type 0 where
  bad_members : AssignRefusal  -- no ballot may have them
  ballots_spent : AssignRefusal  -- no number is left for a ballot

-- members that no ballot may have are refused, and after the last ballot any configuration; the
-- members are tested first. Which nodes there are the master does not know.
abbrev pub refusal : MasterState → Config → Option AssignRefusal
refusal master config =
    if is_lawful master.greatest config.members config.primary
    then if nat_le max_ballot master.given then Some ballots_spent else None
    else Some bad_members

-- the master after an Assign: if it is refused, nothing changes
abbrev pub master_after : MasterState → Config → Option AssignRefusal → MasterState
master_after master config (Some why) = master
master_after master config None = assigning master config
