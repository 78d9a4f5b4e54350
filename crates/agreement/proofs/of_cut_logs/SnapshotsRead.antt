-- SnapshotsRead.antt: the snapshot of each message that was sent thaws.
use Rattle.std.proofs.Common.{◌≡◌, ◌<◌, ◌≤◌, ◌⊎◌, inl, inr, Bool, true, false, List, Some, refl, subst, arith}
use Rattle.std.specs.Prelude.{◌&&◌}
use Rattle.std.proofs.lemmas.Bool.{cases_lt}
use Rattle.machine.specs.Machine.{Rules}
use Rattle.agreement.specs.Moments.{Moment}
use Rattle.ballot_base.specs.declared.message.Body.{Body}
use Rattle.ballot_base.specs.declared.message.Body.TheVariants.{NewBallot, Join, State, Install, Installed, Activate, Activated, Superseded, Append, Held, Commit}
use Rattle.ballot_base.specs.Transfer.{lacks, waits_for}
use Rattle.ballot_base.specs.Logs.{Log, places}
use Rattle.ballot_base.specs.Replica.{ReplicaState}
use Rattle.ballot_base.specs.Unread.{is_unread, reads_none}
use Rattle.ballot_base.proofs.LogsTaken.{reads_none-low, reads_none-not}
use Rattle.agreement.specs.cut_logs.Theorems.{log_in}
use Rattle.agreement.proofs.of_cut_logs.Kept.{Carries, IsSnapshot}

-- a snapshot of a place over a replica's base is one of a place over 0
reads_some : {S C O : Type 0} (rules : Rules S C O) (archive : List C) (r : ReplicaState S C) (log : Log C) → IsSnapshot rules archive log →
    reads_none rules r log ≡ false
reads_some {S = S} {C = C} rules archive r log is = by_base (cases_lt r.log.base log.base)
  where
    by_base : (r.log.base < log.base) ⊎ (log.base ≤ r.log.base) → reads_none rules r log ≡ false
    by_base (inr low) = reads_none-low rules r log low
    by_base (inl over) = reads_none-not rules r log _ (is.read (omega (arith, over)))

and_not : (a b : Bool) → b ≡ false → (a && b) ≡ false
and_not true b e = e
and_not false b e = refl

-- by the kind of the message
pub carried_is_read : {S C O : Type 0} (rules : Rules S C O) (moments : List (Moment S C O)) (archive : List C) (r : ReplicaState S C) (body : Body C) →
    Carries rules moments archive body → is_unread rules r body ≡ false
carried_is_read rules moments archive r (State b log) x = and_not (waits_for r b (places log)) (reads_none rules r log) (reads_some rules archive r log x.0)
carried_is_read rules moments archive r (Install b log) x = and_not (lacks r b (places log)) (reads_none rules r log) (reads_some rules archive r log x.0)
carried_is_read rules moments archive r (NewBallot b members a old) x = refl
carried_is_read rules moments archive r (Join b a) x = refl
carried_is_read rules moments archive r (Installed b held) x = refl
carried_is_read rules moments archive r (Activate b) x = refl
carried_is_read rules moments archive r (Activated b) x = refl
carried_is_read rules moments archive r (Superseded b) x = refl
carried_is_read rules moments archive r (Append b place c) x = refl
carried_is_read rules moments archive r (Held b held) x = refl
carried_is_read rules moments archive r (Commit b held) x = refl

-- the log that a message carries
same_log : {C : Type 0} (log other : Log C) → Some log ≡ Some other → log ≡ other
same_log log other e = cc

pub carried_log : {S C O : Type 0} (rules : Rules S C O) (moments : List (Moment S C O)) (archive : List C) (body : Body C) (log : Log C) →
    Carries rules moments archive body → log_in body ≡ Some log → IsSnapshot rules archive log
carried_log rules moments archive (State b other) log x e = subst (λ l. IsSnapshot rules archive l) (same_log other log e) x.0
carried_log rules moments archive (Install b other) log x e = subst (λ l. IsSnapshot rules archive l) (same_log other log e) x.0
carried_log rules moments archive (NewBallot b members a old) log x e = cc
carried_log rules moments archive (Join b a) log x e = cc
carried_log rules moments archive (Installed b held) log x e = cc
carried_log rules moments archive (Activate b) log x e = cc
carried_log rules moments archive (Activated b) log x e = cc
carried_log rules moments archive (Superseded b) log x e = cc
carried_log rules moments archive (Append b place c) log x e = cc
carried_log rules moments archive (Held b held) log x e = cc
carried_log rules moments archive (Commit b held) log x e = cc
