-- NodeAlone.antt: where the subcommand is `node`, its matches alone say the job.
use Rattle.std.proofs.Common.{◌≡◌, ℕ, List, true≢false, nat_eq, length, codes, Option, Some, None, option_map, ap, sym, ◌∙◌, subst}
use Rattle.std.proofs.lemmas.Option.{same_Some}
use Rattle.clap.specs.Words.{Row, Text}
use Rattle.cluster.specs.declared.table.job.Job.{Job}
use Rattle.cluster.specs.declared.table.job.Job.TheVariants as jobs
use Rattle.cluster.specs.declared.table.job.RunNode.{RunNode}
use Rattle.cluster.specs.table.Jobs.{IsJob, IsNode}

pub node_alone : {A : Type 0} (named : A → Text) (given : A → List Row) (o : Option A) (rows : List Row) (job : Job)
    → option_map named o ≡ Some (codes "node") → option_map (λ (p : Text × List Row). p.1) (option_map (λ b. (named b, given b)) o) ≡ Some rows
    → ((job : RunNode) → IsNode rows job → ⊥) → IsJob (option_map (λ b. (named b, given b)) o) job → ⊥
node_alone named given None rows job name same none is = is
node_alone named given (Some b) rows (jobs.Node job) name same none is =
    none job (subst (λ r. IsNode r job) (same_Some (given b) rows same) is.1)
node_alone named given (Some b) rows (jobs.Master job) name same none is =
    true≢false (ap (λ (t : List ℕ). nat_eq (length t) 6) (sym is.0 ∙ same_Some (named b) (codes "node") name))
node_alone named given (Some b) rows (jobs.Key job) name same none is =
    true≢false (ap (λ (t : List ℕ). nat_eq (length t) 3) (sym is.0 ∙ same_Some (named b) (codes "node") name))
