-- Messages whose snapshot has to be read but does not thaw. They count as lost.
use Rattle.std.specs.Prelude.{Bool, true, false, Option, Some, None, ◌&&◌, nat_lt}
use Rattle.machine.specs.Machine.{Rules}
use Rattle.ballot_base.specs.declared.message.Body.{Body}
use Rattle.ballot_base.specs.declared.message.Body.TheVariants.{NewBallot, Join, State, Install}
use Rattle.ballot_base.specs.declared.message.Body.TheVariants.{Installed, Activate, Activated}
use Rattle.ballot_base.specs.declared.message.Body.TheVariants.{Superseded, Append, Held, Commit}
use Rattle.ballot_base.specs.Transfer.{waits_for, lacks}
use Rattle.ballot_base.specs.Logs.{Log, places}
use Rattle.ballot_base.specs.Replica.{ReplicaState}

-- whether bytes thaw to no machine
abbrev pub stands_for_none : {S : Type 0} → Option S → Bool
stands_for_none None = true
stands_for_none (Some machine) = false

-- the base is above this log's, and the snapshot does not thaw
abbrev pub reads_none : {S C O : Type 0} → Rules S C O → ReplicaState S C → Log C → Bool
reads_none rules replica log =
    nat_lt replica.log.base log.base && stands_for_none (rules.thawed log.snapshot)

-- by the kind of the message
abbrev pub is_unread : {S C O : Type 0} → Rules S C O → ReplicaState S C → Body C → Bool
is_unread rules replica (NewBallot ballot members previous previous_members) = false
is_unread rules replica (Join ballot previous) = false
is_unread rules replica (State ballot log) =
    waits_for replica ballot (places log) && reads_none rules replica log
is_unread rules replica (Install ballot log) =
    lacks replica ballot (places log) && reads_none rules replica log
is_unread rules replica (Installed ballot held) = false
is_unread rules replica (Activate ballot) = false
is_unread rules replica (Activated ballot) = false
is_unread rules replica (Superseded ballot) = false
is_unread rules replica (Append ballot place command) = false
is_unread rules replica (Held ballot held) = false
is_unread rules replica (Commit ballot held) = false
