use Rattle.std.proofs.Common.{codes, sym, ◌∙◌}
use Rattle.clap.specs.Words.{found_of}
use Rattle.clap.proofs.WalkLemmas.{first_value-rows}
use Rattle.command_line.proofs.job_matches.play.Goals as goal

pub returns-clause-job : goal.returns-clause-job
returns-clause-job c = record {
  script = sym (first_value-rows (found_of c.args.found.now) (codes "file")) ∙ sym c.get_str.ensures;
  escape = c.in_ok-escape.ensures.job;
}
