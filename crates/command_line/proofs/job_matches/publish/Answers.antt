use Rattle.std.proofs.Common.{◌∙◌, codes, rules}
use Rattle.clap.specs.Words.{found_of}
use Rattle.clap.proofs.WalkLemmas.{one_text-rows}
use Rattle.command_line.proofs.job_matches.publish.Goals as goal

pub returns-in_err-tries-clause-missing : goal.returns-in_err-tries-clause-missing
returns-in_err-tries-clause-missing c same job is =
    c.in_err-tries.ensures.missing (search rules) job.tries is.tries

pub returns-clause-job : goal.returns-clause-job
returns-clause-job c = record {
  id = c.in_ok-id.ensures.value;
  topic = c.in_ok-topic.ensures.value;
  qos = c.in_ok-qos.ensures.value;
  message = c.in_ok-message.ensures.value;
  retained = λ e. c.get_flag.ensures.value (one_text-rows (found_of c.args.found.now) (codes "retain") ∙ e);
  not_retained = λ e. c.get_flag.ensures.other (one_text-rows (found_of c.args.found.now) (codes "retain") ∙ e);
  tries = c.in_ok-tries.ensures.value;
  addresses = c.in_ok-addresses.ensures.value;
}
