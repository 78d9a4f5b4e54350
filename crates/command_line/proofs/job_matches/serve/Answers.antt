use Rattle.std.proofs.Common.{codes, sym, ◌∙◌}
use Rattle.clap.specs.Words.{found_of}
use Rattle.clap.proofs.WalkLemmas.{first_value-rows}
use Rattle.command_line.proofs.job_matches.serve.Goals as goal

pub returns-clause-job : goal.returns-clause-job
returns-clause-job c = record {
  config = c.in_ok-config.ensures.value;
  log = c.in_ok-log.ensures.value;
  admin = sym (first_value-rows (found_of c.args.found.now) (codes "admin")) ∙ sym c.get_str.ensures;
}
