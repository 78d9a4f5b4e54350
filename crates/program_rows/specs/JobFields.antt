-- The fields that state a job of a command line.
use Rattle.std.specs.Prelude.{ℕ, List, [], ◌∷◌, ◌++◌, codes, Option, Some, None}
use Rattle.std.specs.List.{flat_map}
use Rattle.std.specs.Borrow.{Bor}
use Rattle.rows.specs.Fields.{Text, texts}
use Rattle.packet_base.specs.QoS.{qos_number}
use Rattle.command_line.specs.declared.job.Job.{Job}
use Rattle.command_line.specs.declared.job.Job.TheVariants as jobs
use Rattle.command_line.specs.declared.job.Serve.{Serve}
use Rattle.command_line.specs.declared.job.Publish.{Publish}
use Rattle.command_line.specs.declared.job.Subscribe.{Subscribe}
use Rattle.command_line.specs.declared.job.Play.{Play}
use Rattle.command_line.specs.declared.job.Escape.{Escape}
use Rattle.program_rows.specs.AnswerFields.{flag_fields, number_fields}

-- `address "h:1"`
abbrev pub address_fields : Text → List Text
address_fields address = codes "address" ∷ address ∷ []

-- `admin "h:1"`, if there is such an address
abbrev pub admin_fields : Option (Bor Text) → List Text
admin_fields None = []
admin_fields (Some admin) = codes "admin" ∷ admin.now ∷ []

-- `log "info"`, then the address
abbrev pub told_fields : Serve → List Text
told_fields job = codes "log" ∷ job.log.now ∷ admin_fields job.admin

-- `serve config "one.toml"`, then the rest
abbrev pub serve_fields : Serve → List Text
serve_fields job = codes "serve" ∷ codes "config" ∷ job.config.now ∷ told_fields job

-- `tries 10`, then each address
abbrev pub tries_fields : ℕ → List Text → List Text
tries_fields tries addresses =
    number_fields (codes "tries") tries ++ flat_map address_fields addresses

-- `qos 1 message "x" retain 0`
abbrev pub content_fields : Publish → List Text
content_fields job = number_fields (codes "qos") (qos_number job.qos)
    ++ codes "message" ∷ job.message.now ∷ flag_fields (codes "retain") job.retain

-- `id "a" topic "t"`, then the content
abbrev pub message_fields : Publish → List Text
message_fields job =
    codes "id" ∷ job.id.now ∷ codes "topic" ∷ job.topic.now ∷ content_fields job

-- `pub`, then the message, the tries and the addresses
abbrev pub publish_fields : Publish → List Text
publish_fields job =
    codes "pub" ∷ message_fields job ++ tries_fields job.tries (texts job.addresses.items)

-- `id "b" filter "#" qos 0 count 1`
abbrev pub asked_fields : Subscribe → List Text
asked_fields job = codes "id" ∷ job.id.now ∷ codes "filter" ∷ job.filter.now
    ∷ number_fields (codes "qos") (qos_number job.qos)
    ++ number_fields (codes "count") job.count

-- `sub`, then what is asked for, the tries and the addresses
abbrev pub subscribe_fields : Subscribe → List Text
subscribe_fields job =
    codes "sub" ∷ asked_fields job ++ tries_fields job.tries (texts job.addresses.items)

-- `file "s"`, if there is a file
abbrev pub file_fields : Option (Bor Text) → List Text
file_fields None = []
file_fields (Some file) = codes "file" ∷ file.now ∷ []

-- `escape "1,2" client "a"`, if a recovery is asked for
abbrev pub escape_fields : Option Escape → List Text
escape_fields None = []
escape_fields (Some way) =
    codes "escape" ∷ way.members.now ∷ codes "client" ∷ way.client.now ∷ []

-- `play`, then the file and the recovery
abbrev pub play_fields : Play → List Text
play_fields job = codes "play" ∷ file_fields job.script ++ escape_fields job.escape

-- the fields of a job
abbrev pub job_fields : Job → List Text
job_fields (jobs.Serve job) = serve_fields job
job_fields (jobs.Publish job) = publish_fields job
job_fields (jobs.Subscribe job) = subscribe_fields job
job_fields (jobs.Play job) = play_fields job
