-- JobsEnd.antt: how jobs end: what is done by those that end well, and the errors of the others.
use Rattle.std.proofs.Common.{◌≡◌, ◌⊎◌, ◌++◌, ◌∷◌, ℕ, Bor, List, [], Option, codes, Some, None, Result, Ok, Err, IfOk, IfErr, IfNone, IsErrAnd, OnOk, sym, subst, arith, inl, inr}
use Rattle.std.specs.Io.KnownBytes.{Appends}
use Rattle.command_line.specs.declared.fault.TableFault.{TableFault}
use Rattle.command_line.specs.declared.fault.TableFault.TheVariants as tables
use Rattle.command_line.specs.declared.job.Escape.{Escape}
use Rattle.command_line.specs.declared.job.Job.{Job}
use Rattle.command_line.specs.declared.job.Play.{Play}
use Rattle.user_client.specs.Subscriber.{SubscriberView, PrintsAccepted, listening_anew, new_listening}
use Rattle.user_client.specs.declared.user_client_error.UserClientError.{UserClientError}
use Rattle.jobs.specs.Done.{PrintsAll, SaysBye}
use Rattle.jobs.specs.Failures.{FailsAt, FailsToServe}
use Rattle.jobs.specs.Errors.{error_of_client, exit_status, error_of_table}
use Rattle.script.specs.Orders.{AreNumbers}
use Rattle.jobs.specs.Transcripts.{IsScriptText, PlaysScript, PrintsPlayed, PrintsRecovery, PrintsRecoveryOf}
use Rattle.jobs.specs.declared.job_error.JobError.{JobError}
use Rattle.jobs.specs.declared.job_error.JobError.TheVariants as errors

-- ---- results

-- what holds in any case holds of a result that is `Ok`
pub on_ok : {T E : Type 0} (r : Result T E) {P : Type 0} → P → OnOk r P
on_ok (Ok x) it = it
on_ok (Err e) it = tt

pub both : {T E : Type 0} (r : Result T E) (P Q : Type 0) → OnOk r P → OnOk r Q → OnOk r (P × Q)
both (Ok x) P Q one two = (one, two)
both (Err e) P Q one two = tt

-- ---- refusals

-- the words were refused
pub by_words : {T : Type 0} (r : Result T JobError) (Can : Type 0) (Refuses : UserClientError → Type 0) (cause : UserClientError)
    → IsErrAnd r (λ (error : JobError). error ≡ error_of_client cause) → Refuses cause
    → IfErr r (λ (error : JobError). (Can → ⊥) → (it : UserClientError) × Refuses it × (error ≡ error_of_client it))
by_words (Ok x) Can Refuses cause is refused = tt
by_words (Err error) Can Refuses cause is refused = λ cannot. (cause, refused, is)

-- nothing was wrong with the words
pub at_work : {T : Type 0} (r : Result T JobError) (Can : Type 0) (Refuses : JobError → Type 0) → Can
    → IfErr r (λ (error : JobError). (Can → ⊥) → Refuses error)
at_work (Ok x) Can Refuses can = tt
at_work (Err error) Can Refuses can = λ cannot. absurd (cannot can)

-- the text is no table
no_table : (cause : TableFault) (error : JobError) → error ≡ error_of_table cause → (error ≡ errors.Table) ⊎ (error ≡ errors.Memory)
no_table tables.Shape error is = inl is
no_table tables.Memory error is = inr is

pub by_table : {T : Type 0} (r : Result T JobError) (text : List ℕ) (cause : TableFault)
    → IsErrAnd r (λ (error : JobError). error ≡ error_of_table cause) → IfErr r (FailsToServe text)
by_table (Ok x) text cause is = tt
by_table (Err error) text cause is = λ cannot. no_table cause error is

-- ---- what was done

pub prints_all : (id : List ℕ) (count : ℕ) (start end : SubscriberView) (old new : Option (List ℕ)) → start ≡ new_listening id count
    → PrintsAccepted (listening_anew start) old end new → end.left ≡ 0 → PrintsAll id count old new
prints_all id count start end old new is printed all = record {
  end = end;
  printed = subst (λ (s : SubscriberView). PrintsAccepted (listening_anew s) old end new) is printed;
  all = all;
}

-- the last that was written is the line
pub says_bye : {T E O : Type 0} (r : Result T E) (contents : O → Option (List ℕ)) (before after : O)
    → OnOk r (Appends (contents before) (contents after) (codes "bye" ++ 10 ∷ [])) → OnOk r (SaysBye contents after)
says_bye (Ok done) contents before after written = (before, written)
says_bye (Err error) contents before after written = tt

-- a way out for the members and the client that the words name
pub recovery_of : (r : Result (Unit {0}) JobError) (job : Escape) (text members shown client : List ℕ) (old new : Option (List ℕ))
    → AreNumbers job.members.now members → shown ≡ members → client ≡ job.client.now
    → OnOk r (PrintsRecovery text shown client old new) → OnOk r (PrintsRecoveryOf job text old new)
recovery_of (Ok done) job text members shown client old new are same is printed = (
  members,
  are,
  subst (λ (c : List ℕ). PrintsRecovery text members c old new) is
      (subst (λ (ms : List ℕ). PrintsRecovery text ms client old new) same printed),
)
recovery_of (Err error) job text members shown client old new are same is printed = tt

-- the script of a text was played
pub plays : (r : Result (Unit {0}) JobError) (job : Play) (escape : Option Escape) (text shown : List ℕ) (input old new : Option (List ℕ))
    → job.escape ≡ escape → IsScriptText job input text → shown ≡ text
    → OnOk r (PrintsPlayed escape shown old new) → OnOk r (PlaysScript job input old new)
plays (Ok done) job escape text shown input old new asked is same printed = (
  text,
  is,
  subst (λ (e : Option Escape). PrintsPlayed e text old new) (sym asked)
      (subst (λ (t : List ℕ). PrintsPlayed escape t old new) same printed),
)
plays (Err error) job escape text shown input old new asked is same printed = tt

-- a file is named, or none is
pub of_file : {T E : Type 0} (r : Result T E) (script : Option (Bor (List ℕ))) (file : Bor (List ℕ)) (P : T → Type 0)
    → script ≡ Some file → IfOk r (λ (x : T). IfNone script (P x))
of_file (Ok x) script file P is = subst (λ (s : Option (Bor (List ℕ))). IfNone s (P x)) (sym is) tt
of_file (Err e) script file P is = tt

pub of_input : {T E : Type 0} (r : Result T E) (script : Option (Bor (List ℕ))) (P : T → Type 0)
    → IfOk r P → IfOk r (λ (x : T). IfNone script (P x))
of_input (Ok x) None P it = it
of_input (Ok x) (Some file) P it = tt
of_input (Err e) script P it = tt

-- ---- jobs

-- what was done by the job of an arm
pub done_in : {T E : Type 0} (r : Result T E) (P : Job → Type 0) (job arm : Job) → job ≡ arm → OnOk r (P arm) → OnOk r (P job)
done_in r P job arm is done = subst (λ (j : Job). OnOk r (P j)) (sym is) done

pub fails_in : {T : Type 0} (r : Result T JobError) (job arm : Job) → job ≡ arm → IfErr r (FailsAt arm) → IfErr r (FailsAt job)
fails_in r job arm is fails = subst (λ (j : Job). IfErr r (FailsAt j)) (sym is) fails

pub fails_somehow : {T E : Type 0} (r : Result T E) → IfErr r (λ (error : E). Unit {0})
fails_somehow (Ok x) = tt
fails_somehow (Err e) = tt

-- no error ends with status 0
pub not_0 : (error : JobError) → exit_status error ≡ 0 → ⊥
not_0 errors.Memory is = absurd (omega (arith, is))
not_0 errors.Input is = absurd (omega (arith, is))
not_0 errors.Output is = absurd (omega (arith, is))
not_0 errors.Clock is = absurd (omega (arith, is))
not_0 errors.Threads is = absurd (omega (arith, is))
not_0 (errors.Files count) is = absurd (omega (arith, is))
not_0 (errors.File file kind) is = absurd (omega (arith, is))
not_0 (errors.Address address kind) is = absurd (omega (arith, is))
not_0 errors.Words is = absurd (omega (arith, is))
not_0 errors.LogWord is = absurd (omega (arith, is))
not_0 errors.Table is = absurd (omega (arith, is))
not_0 (errors.Script number) is = absurd (omega (arith, is))
not_0 errors.Losses is = absurd (omega (arith, is))
not_0 errors.Idle is = absurd (omega (arith, is))
not_0 (errors.Refused number) is = absurd (omega (arith, is))
not_0 errors.SessionPresent is = absurd (omega (arith, is))
not_0 (errors.Lost cause) is = absurd (omega (arith, is))
not_0 errors.NotSubscribed is = absurd (omega (arith, is))
