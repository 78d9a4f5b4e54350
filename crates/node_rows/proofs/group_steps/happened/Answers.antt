use Rattle.std.proofs.Common.{rules, tests}
use Rattle.node_rows.proofs.GroupStepAnswers.{lets_happen}
use Rattle.node_rows.proofs.group_steps.happened.Goals as goal

pub returns-in_ok-only : goal.returns-in_ok-only
returns-in_ok-only c =
    lets_happen c.args.group.now c.step.new.self c.args.event _ _ c.step.ensures.step (search (rules, tests))
    c.in_ok-count_fields.ensures c.in_ok-only.ensures
