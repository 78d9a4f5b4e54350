-- TicksTaken.antt: what a replica says at a tick is the row of the protocol.
use Rattle.std.proofs.Common.{◌≡◌, ℕ, Bool, true, ◌&&◌, List, ◌++◌, ap, sym, ◌∙◌, refl, subst}
use Rattle.machine.specs.Machine.{Rules}
use Rattle.ballot_base.specs.declared.message.Body.TheVariants.{Commit}
use Rattle.ballot_base.specs.declared.message.Effect.{Effect}
use Rattle.ballot_base.specs.declared.status.Progress.{Progress}
use Rattle.ballot_base.specs.declared.status.Role.{Role}
use Rattle.ballot_base.specs.declared.status.Role.TheVariants.{Backup, Fetching, Installing, Active}
use Rattle.ballot_base.specs.Replica.{ReplicaState, CountedReplica}
use Rattle.ballot_base.specs.Logs.{Log}
use Rattle.ballot_base.specs.StepOutcome.{Outcome, message_to_followed}
use Rattle.ballot_base.specs.Service.{appends_after}
use Rattle.ballot_base.specs.Protocol.{replica_step, ticked}
use Rattle.ballot_base.specs.Protocol.Input.{Ticks}
use Rattle.ballot_base.proofs.MessageRows.{on_tick_active-is}
use Rattle.ballot_base.specs.Sends.{Sends}
use Rattle.ballot.specs.Inside.{PlainStepOrLost}
use Rattle.ballot_base.proofs.SendsJoin.{Sends-nothing, Sends-then}
use Rattle.ballot.proofs.MessagesTaken.{went_sent}

-- a tick is no step of the replica's own
pub ticked-state : {S C : Type 0} (O : Type 0) (r : ReplicaState S C) (role : Role) → (ticked O r role).state ≡ r
ticked-state O r Backup = refl
ticked-state O r Fetching = refl
ticked-state O r Installing = refl
ticked-state {S = S} {C = C} O r Active = ap (λ (o : Outcome S C O). o.state) (on_tick_active-is O r)

-- its messages are sent, except those that are lost
pub tick_taken : {S C O : Type 0} (rules : Rules S C O) (old : CountedReplica S C) (before after : List (Effect C O)) (whole : Bool) →
    Sends before after (ticked O old.state old.state.role).effects whole →
    PlainStepOrLost rules old (replica_step rules old.state Ticks) whole old before after
tick_taken {O = O} rules old before after whole sends =
    went_sent old _ old before after whole sends (sym (ticked-state O old.state old.state.role)) refl

-- what an active primary says again is said in two sends
pub told : {C : Type 0} (O : Type 0) (id joined committed : ℕ) (log log' : Log C) (progress progress' shown : List Progress)
    (before mid after : List (Effect C O)) (first second : Bool) →
    log' ≡ log → progress ≡ shown → progress' ≡ shown →
    Sends before mid (appends_after O id joined log' progress) first →
    Sends mid after (message_to_followed O id (Commit joined committed) progress') second →
    Sends before after (appends_after O id joined log shown ++ message_to_followed O id (Commit joined committed) shown) (first && second)
told O id joined committed log log' progress progress' shown before mid after first second l p p' sends commits =
    Sends-then
    (subst (λ ps. Sends before mid (appends_after O id joined log ps) first) p
    (subst (λ us. Sends before mid (appends_after O id joined us progress) first) l sends))
    (subst (λ ps. Sends mid after (message_to_followed O id (Commit joined committed) ps) second) p' commits)

-- and that is its tick
pub told_ticks : {S C : Type 0} (O : Type 0) (r : ReplicaState S C) (role : Role) (before after : List (Effect C O)) (whole : Bool) → role ≡ Active →
    Sends before after (appends_after O r.id r.joined r.log r.progress ++ message_to_followed O r.id (Commit r.joined r.committed) r.progress) whole →
    Sends before after (ticked O r role).effects whole
told_ticks {S = S} {C = C} O r role before after whole e sends =
    subst (λ (o : Outcome S C O). Sends before after o.effects whole) (sym (ap (ticked O r) e ∙ on_tick_active-is O r)) sends

pub silent_ticks : {S C : Type 0} (O : Type 0) (r : ReplicaState S C) (role : Role) (out : List (Effect C O)) → role ≡ Backup →
    Sends out out (ticked O r role).effects true
silent_ticks {S = S} {C = C} O r role out e =
    subst (λ (o : Outcome S C O). Sends out out o.effects true) (sym (ap (ticked O r) e)) (Sends-nothing out)
