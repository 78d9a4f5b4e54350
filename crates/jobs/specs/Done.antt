-- What a job that succeeded has done, as far as its input and output show it.
use Rattle.std.specs.Prelude.{◌≡◌, ◌∷◌, ◌++◌, ℕ, List, [], Option, codes}
use Rattle.std.specs.Io.KnownBytes.{Appends}
use Rattle.command_line.specs.declared.job.Job.{Job}
use Rattle.command_line.specs.declared.job.Job.TheVariants as jobs
use Rattle.user_client.specs.Subscriber.{SubscriberView, PrintsAccepted, new_listening}
use Rattle.jobs.specs.Failures.{CanPublish, CanSubscribe}
use Rattle.jobs.specs.Transcripts.{PlaysScript}

-- the line `bye` is the last that a writer took
abbrev pub SaysBye : {O : Type 0} → (O → Option (List ℕ)) → O → Type 0
SaysBye {O} contents output =
    (before : O) × Appends (contents before) (contents output) (codes "bye" ++ 10 ∷ [])

-- a new client of this identifier accepted publications, and the first `count` of them were
-- printed, a line each, in order
pub record PrintsAll (id : List ℕ) (count : ℕ) (old new : Option (List ℕ)) : Type 0 where
  pub end : SubscriberView
  pub printed : PrintsAccepted (new_listening id count) old end new
  pub all : end.left ≡ 0

-- The job is done: `input` is what was left to read before it, where that is known, and between
-- these two states of its output the job was printed.
abbrev pub IsJobDone : {O : Type 0} → (O → Option (List ℕ)) → Job → Option (List ℕ) → O → O → Type 0
IsJobDone contents (jobs.Serve job) input old new = SaysBye contents new
IsJobDone contents (jobs.Publish job) input old new = CanPublish job
IsJobDone contents (jobs.Subscribe job) input old new =
    CanSubscribe job × PrintsAll job.id.now job.count (contents old) (contents new)
IsJobDone contents (jobs.Play job) input old new =
    PlaysScript job input (contents old) (contents new)
