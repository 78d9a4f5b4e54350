use Rattle.std.proofs.Common.{rules}
use Rattle.node_rows.proofs.GroupStepAnswers.{agreed_step}
use Rattle.node_rows.proofs.group_steps.shown.Goals as goal

pub returns-in_ok-agreed : goal.returns-in_ok-agreed
returns-in_ok-agreed c = agreed_step c.args.group.now c.args.word.now _ (search rules) c.in_ok-agreed.ensures
