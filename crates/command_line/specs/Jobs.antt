-- The job of a command line, from the matches that `clap` returns for its words.
use Rattle.std.specs.Prelude.{◌≡◌, ◌<◌, ◌^◌, ℕ, List, true, false, Option, Some, None, codes, option_map}
use Rattle.std.specs.Str.Parse.{IsNumeral, digits_value, without_leading_plus}
use Rattle.packet_base.specs.QoS.{qos_number}
use Rattle.clap.specs.Walk.{texts}
use Rattle.clap.specs.Words.{IsAmong, Kinds, Row, Text, all_of, first_of, kind_of, one_of}
use Rattle.command_line.specs.declared.job.Job.{Job}
use Rattle.command_line.specs.declared.job.Job.TheVariants as jobs
use Rattle.command_line.specs.declared.job.Serve.{Serve}
use Rattle.command_line.specs.declared.job.Publish.{Publish}
use Rattle.command_line.specs.declared.job.Subscribe.{Subscribe}
use Rattle.command_line.specs.declared.job.Play.{Play}
use Rattle.command_line.specs.declared.job.Escape.{Escape}
use Rattle.command_line.specs.declared.fault.LineFault.{LineFault}
use Rattle.command_line.specs.declared.fault.LineFault.TheVariants as faults

-- a decimal number of 32 bits as a text; a plus may come first
abbrev pub IsNumber : Text → ℕ → Type 0
IsNumber text number = (IsNumeral 10 (without_leading_plus text)
    × (digits_value 10 (without_leading_plus text) < 2 ^ 32))
    × (number ≡ digits_value 10 (without_leading_plus text))

-- the first value of an argument is a number
pub record HasNumber (id : Text) (rows : List Row) (number : ℕ) : Type 0 where
  pub text : Text
  pub given : one_of id rows ≡ Some text
  pub said : IsNumber text number

-- the job is to serve, with the values that the arguments have
pub record IsServe (rows : List Row) (job : Serve) : Type 0 where
  pub config : first_of (codes "config") rows ≡ Some job.config.now
  pub log : first_of (codes "log") rows ≡ Some job.log.now
  pub admin : first_of (codes "admin") rows ≡ option_map (λ admin. admin.now) job.admin

-- the job is to publish, with the values that the arguments have
pub record IsPublish (rows : List Row) (job : Publish) : Type 0 where
  pub id : first_of (codes "id") rows ≡ Some job.id.now
  pub topic : first_of (codes "topic") rows ≡ Some job.topic.now
  pub qos : HasNumber (codes "qos") rows (qos_number job.qos)
  pub message : first_of (codes "message") rows ≡ Some job.message.now
  pub retained : one_of (codes "retain") rows ≡ Some (codes "true") → job.retain ≡ true
  pub not_retained : one_of (codes "retain") rows ≡ Some (codes "false") → job.retain ≡ false
  pub tries : HasNumber (codes "tries") rows job.tries
  pub addresses : all_of (codes "address") rows ≡ Some (texts job.addresses.items)

-- the job is to subscribe, with the values that the arguments have
pub record IsSubscribe (rows : List Row) (job : Subscribe) : Type 0 where
  pub id : first_of (codes "id") rows ≡ Some job.id.now
  pub filter : first_of (codes "filter") rows ≡ Some job.filter.now
  pub qos : HasNumber (codes "qos") rows (qos_number job.qos)
  pub count : HasNumber (codes "count") rows job.count
  pub tries : HasNumber (codes "tries") rows job.tries
  pub addresses : all_of (codes "address") rows ≡ Some (texts job.addresses.items)

-- the members of a recovery and its client, both or neither
abbrev pub IsEscapeOf : Option Text → Option Text → Option Escape → Type 0
IsEscapeOf None None None = Unit {0}
IsEscapeOf (Some members) (Some client) (Some job) =
    (members ≡ job.members.now) × (client ≡ job.client.now)
IsEscapeOf _ _ _ = ⊥

-- the recovery that the words ask for, if they do
abbrev pub IsEscape : List Row → Option Escape → Type 0
IsEscape rows job = IsEscapeOf (first_of (codes "escape") rows) (first_of (codes "client") rows) job

-- the job is to play the script in this file, or on standard input
pub record IsPlay (rows : List Row) (job : Play) : Type 0 where
  pub script : first_of (codes "file") rows ≡ option_map (λ script. script.now) job.script
  pub escape : IsEscape rows job.escape

-- the job is that of the subcommand with this name and these matches
abbrev pub IsJobOf : Text × List Row → Job → Type 0
IsJobOf met (jobs.Serve job) = (met.0 ≡ codes "serve") × IsServe met.1 job
IsJobOf met (jobs.Publish job) = (met.0 ≡ codes "pub") × IsPublish met.1 job
IsJobOf met (jobs.Subscribe job) = (met.0 ≡ codes "sub") × IsSubscribe met.1 job
IsJobOf met (jobs.Play job) = (met.0 ≡ codes "play") × IsPlay met.1 job

-- the job is that of the subcommand that was found
abbrev pub IsJob : Option (Text × List Row) → Job → Type 0
IsJob None job = ⊥
IsJob (Some met) job = IsJobOf met job

-- the refusal is of one of these kinds
abbrev pub IsRefusal : Kinds → LineFault → Type 0
IsRefusal kinds (faults.Words error) = IsAmong (kind_of error) kinds
IsRefusal kinds faults.Incomplete = Unit {0}
IsRefusal kinds faults.Memory = Unit {0}
