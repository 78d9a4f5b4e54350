-- The step of a replica on a message, a proposal or a tick.
--
-- The step is a total function, and a message whose condition does not hold changes nothing: so
-- late, repeated and foreign messages need no case of their own. An Append is taken only at the
-- next place, by a backup of that very ballot; Held and Commit count only at its primary and its
-- backups. Join and Install never lower the joined ballot, and no log is taken that lacks an
-- applied place. A tick changes no log and no role: it only retransmits, so nothing depends on when
-- it comes.
use Rattle.std.specs.Prelude.{ℕ}
use Rattle.machine.specs.Machine.{Rules}
use Rattle.ballot_base.specs.declared.message.Message.{Message}
use Rattle.ballot_base.specs.declared.message.Body.{Body}
use Rattle.ballot_base.specs.declared.message.Body.TheVariants.{NewBallot, Join, State, Install}
use Rattle.ballot_base.specs.declared.message.Body.TheVariants.{Installed, Activate, Activated}
use Rattle.ballot_base.specs.declared.message.Body.TheVariants.{Superseded, Append, Held, Commit}
use Rattle.ballot_base.specs.declared.status.Role.{Role}
use Rattle.ballot_base.specs.declared.status.Role.TheVariants.{Backup, Fetching, Installing, Active}
use Rattle.ballot_base.specs.StepOutcome.{Outcome, nothing_done}
use Rattle.ballot_base.specs.Service.{proposed, on_append, on_held, on_commit, on_tick_active}
use Rattle.ballot_base.specs.Transfer.{on_new_ballot, on_join, on_state, on_install}
use Rattle.ballot_base.specs.Transfer.{on_tick_fetching, on_tick_installing}
use Rattle.ballot_base.specs.Activation.{on_installed, on_activated, on_superseded}
use Rattle.ballot_base.specs.Replica.{ReplicaState}

-- the input of a replica in one step
pub data Input (C : Type 0) : Type 0 where
  Receives : Message C → Input C  -- a message comes
  Proposes : C → Input C  -- a command is proposed
  Ticks : Input C  -- time passes

-- a message, by its kind
abbrev pub received : {S C O : Type 0} → Rules S C O → ReplicaState S C → ℕ → Body C → Outcome S C O
received {O = O} rules replica from (NewBallot ballot members previous previous_members) =
    on_new_ballot O replica ballot members previous previous_members
received {O = O} rules replica from (Join ballot previous) = on_join O replica from ballot previous
received rules replica from (State ballot log) = on_state rules replica ballot log
received rules replica from (Install ballot log) = on_install rules replica from ballot log
received {O = O} rules replica from (Installed ballot held) = on_installed O replica from ballot
received {O = O} rules replica from (Activate ballot) = nothing_done O replica
received {O = O} rules replica from (Activated ballot) = on_activated rules replica ballot
received {O = O} rules replica from (Superseded ballot) = on_superseded O replica ballot
received {O = O} rules replica from (Append ballot place command) =
    on_append O replica from ballot place command
received {O = O} rules replica from (Held ballot held) = on_held rules replica from ballot held
received rules replica from (Commit ballot held) = on_commit rules replica ballot held

-- a tick: a backup does nothing, and every other role repeats what others may have missed
abbrev pub ticked : {S C : Type 0} (O : Type 0) → ReplicaState S C → Role → Outcome S C O
ticked O replica Backup = nothing_done O replica
ticked O replica Fetching = on_tick_fetching O replica
ticked O replica Installing = on_tick_installing O replica
ticked O replica Active = on_tick_active O replica

-- the step of a replica that has not stopped
abbrev pub replica_step : {S C O : Type 0} →
    Rules S C O → ReplicaState S C → Input C → Outcome S C O
replica_step rules replica (Receives message) = received rules replica message.from message.body
replica_step rules replica (Proposes command) = proposed rules replica command
replica_step {O = O} rules replica Ticks = ticked O replica replica.role
