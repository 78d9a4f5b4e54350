-- When a message or a tick has an effect, by the protocol.
use Rattle.std.specs.Prelude.{ℕ, Bool, true, false, List, length, ◌==◌, ◌&&◌, ◌||◌, nat_lt, nat_le}
use Rattle.std.specs.List.{list_any}
use Rattle.ballot_base.specs.declared.message.Body.{Body}
use Rattle.ballot_base.specs.declared.message.Body.TheVariants.{NewBallot, Join, State, Install}
use Rattle.ballot_base.specs.declared.message.Body.TheVariants.{Installed, Activate, Activated}
use Rattle.ballot_base.specs.declared.message.Body.TheVariants.{Superseded, Append, Held, Commit}
use Rattle.ballot_base.specs.declared.status.Progress.{Progress}
use Rattle.ballot_base.specs.declared.status.Role.{Role}
use Rattle.ballot_base.specs.declared.status.Role.TheVariants.{Backup, Fetching, Installing, Active}
use Rattle.ballot_base.specs.Activation.{is_installing_in, may_begin}
use Rattle.ballot_base.specs.Transfer.{waits_for, lacks}
use Rattle.ballot_base.specs.Logs.{places}
use Rattle.ballot_base.specs.Replica.{ReplicaState}
use Rattle.ballot_base.specs.Service.{least, raised, follows, leads}

-- whether a member is known to hold less than `held`
abbrev pub rises : ℕ → ℕ → List Progress → Bool
rises member held progress =
    list_any (λ reached. reached.member == member && nat_lt reached.held held) progress

-- whether a message has an effect, by its kind
abbrev pub is_heeded : {S C : Type 0} → ReplicaState S C → ℕ → Body C → Bool
is_heeded replica from (NewBallot ballot members previous previous_members) =
    nat_lt replica.joined ballot
is_heeded replica from (Join ballot previous) =
    nat_le replica.joined ballot && nat_le previous replica.held_in
is_heeded replica from (State ballot log) = waits_for replica ballot (places log)
is_heeded replica from (Install ballot log) =
    lacks replica ballot (places log) || (replica.joined == ballot && replica.held_in == ballot)
is_heeded replica from (Installed ballot held) =
    is_installing_in replica ballot && list_any (λ member. member == from) replica.lacking
is_heeded replica from (Activate ballot) = false
is_heeded replica from (Activated ballot) = may_begin replica ballot
is_heeded replica from (Superseded ballot) = is_installing_in replica ballot
is_heeded replica from (Append ballot place command) =
    follows replica ballot && nat_le place (places replica.log)
is_heeded replica from (Held ballot held) =
    leads replica ballot
    && (rises from held replica.progress
    || nat_lt replica.committed (least (places replica.log) (raised from held replica.progress)))
is_heeded replica from (Commit ballot held) =
    follows replica ballot && (nat_le held (places replica.log) && nat_lt replica.committed held)

-- whether a tick sends something, by the role
abbrev pub repeats : {S C : Type 0} → ReplicaState S C → Role → Bool
repeats replica Backup = false
repeats replica Fetching = nat_lt 0 (length replica.previous_members)
repeats replica Installing = true
repeats replica Active = nat_lt 0 (length replica.progress)
