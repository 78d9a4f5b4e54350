-- The job of a command line, from the matches that `clap` returns for its words.
use Rattle.std.specs.Prelude.{◌≡◌, List, Option, Some, None, codes}
use Rattle.clap.specs.Words.{IsAmong, Kinds, Row, Text, first_of, kind_of}
use Rattle.command_line.specs.Jobs.{HasNumber}
use Rattle.cluster.specs.declared.table.job.Job.{Job}
use Rattle.cluster.specs.declared.table.job.Job.TheVariants as jobs
use Rattle.cluster.specs.declared.table.job.RunNode.{RunNode}
use Rattle.cluster.specs.declared.table.fault.LineFault.{LineFault}
use Rattle.cluster.specs.declared.table.fault.LineFault.TheVariants as faults

-- the job is to run the node of this file and row
pub record IsNode (rows : List Row) (job : RunNode) : Type 0 where
  pub config : first_of (codes "config") rows ≡ Some job.config.now
  pub row : HasNumber (codes "row") rows job.row

-- the job is that of the subcommand with this name and these matches: to run a node, to run the
-- master by the file of `--config`, or to make a key in a file
abbrev pub IsJobOf : Text × List Row → Job → Type 0
IsJobOf met (jobs.Node job) = (met.0 ≡ codes "node") × IsNode met.1 job
IsJobOf met (jobs.Master job) =
    (met.0 ≡ codes "master") × (first_of (codes "config") met.1 ≡ Some job.config.now)
IsJobOf met (jobs.Key job) =
    (met.0 ≡ codes "key") × (first_of (codes "file") met.1 ≡ Some job.file.now)

-- the job is that of the subcommand that was found
abbrev pub IsJob : Option (Text × List Row) → Job → Type 0
IsJob None job = ⊥
IsJob (Some met) job = IsJobOf met job

-- the refusal is of one of these kinds
abbrev pub IsRefusal : Kinds → LineFault → Type 0
IsRefusal kinds (faults.Words error) = IsAmong (kind_of error) kinds
IsRefusal kinds faults.Incomplete = Unit {0}
IsRefusal kinds faults.Memory = Unit {0}
