-- What has to be right in what the user wrote, and how a job fails if it is not.
use Rattle.std.specs.Prelude.{◌≡◌, ◌⊎◌, ℕ, List, None}
use Rattle.command_line.specs.Tables.{IsTableText}
use Rattle.packet_base.specs.ClientId.{client_fault}
use Rattle.command_line.specs.declared.job.Job.{Job}
use Rattle.command_line.specs.declared.job.Job.TheVariants as jobs
use Rattle.command_line.specs.declared.job.Publish.{Publish}
use Rattle.command_line.specs.declared.job.Subscribe.{Subscribe}
use Rattle.command_line.specs.declared.node_table.NodeTable.{NodeTable}
use Rattle.session_base.specs.declared.publication.Publication.{Publication}
use Rattle.topics.specs.Text.{filter_fault}
use Rattle.user_client.specs.Refusals.{IsPublishable, RefusesListener, RefusesPublisher}
use Rattle.user_client.specs.declared.user_client_error.UserClientError.{UserClientError}
use Rattle.jobs.specs.Errors.{error_of_client, exit_status}
use Rattle.jobs.specs.declared.job_error.JobError.{JobError}
use Rattle.jobs.specs.declared.job_error.JobError.TheVariants as errors

-- the text is a TOML document of a lawful table of nodes
abbrev pub IsTable : List ℕ → Type 0
IsTable text = (table : NodeTable) × IsTableText text table

-- if the text is no table, the error says so, or memory ran out
abbrev pub FailsToServe : List ℕ → JobError → Type 0
FailsToServe text error = (IsTable text → ⊥) → (error ≡ errors.Table) ⊎ (error ≡ errors.Memory)

-- the publication that the words of `pub` ask for
abbrev pub asked_publication : Publish → Publication
asked_publication job = record {
  retain = job.retain;
  qos = job.qos;
  topic = job.topic.now;
  payload = job.message.now;
}

-- nothing is wrong with the identifier and the topic of `pub`, and the packet is not too large
abbrev pub CanPublish : Publish → Type 0
CanPublish job = IsPublishable job.id.now (asked_publication job)

-- the error is that of the first fault, or memory ran out
abbrev pub RefusesToPublish : Publish → JobError → Type 0
RefusesToPublish job error = (cause : UserClientError)
    × RefusesPublisher job.id.now (asked_publication job) cause × (error ≡ error_of_client cause)

-- `pub` may fail with this error: if its words are refused, it is theirs
abbrev pub FailsToPublish : Publish → JobError → Type 0
FailsToPublish job error = (CanPublish job → ⊥) → RefusesToPublish job error

-- nothing is wrong with the identifier and the filter of `sub`
abbrev pub CanSubscribe : Subscribe → Type 0
CanSubscribe job = (client_fault job.id.now ≡ None) × (filter_fault job.filter.now ≡ None)

-- the error is that of the first fault, or memory ran out
abbrev pub RefusesToSubscribe : Subscribe → JobError → Type 0
RefusesToSubscribe job error = (cause : UserClientError)
    × RefusesListener job.id.now job.filter.now cause × (error ≡ error_of_client cause)

-- `sub` may fail with this error: if its words are refused, it is theirs
abbrev pub FailsToSubscribe : Subscribe → JobError → Type 0
FailsToSubscribe job error = (CanSubscribe job → ⊥) → RefusesToSubscribe job error

-- a job may fail with this error; `serve` and `play` are given files, whose texts may be anything
abbrev pub FailsAt : Job → JobError → Type 0
FailsAt (jobs.Serve job) error = Unit {0}
FailsAt (jobs.Publish job) error = FailsToPublish job error
FailsAt (jobs.Subscribe job) error = FailsToSubscribe job error
FailsAt (jobs.Play job) error = Unit {0}

-- the exit status is that of an error with which the job may fail
abbrev pub EndsByError : Job → ℕ → Type 0
EndsByError job status =
    (error : JobError) × FailsAt job error × (status ≡ exit_status error)
