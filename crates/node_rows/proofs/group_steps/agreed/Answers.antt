use Rattle.node_rows.proofs.GroupStepAnswers.{shown_gives}
use Rattle.node_rows.proofs.group_steps.agreed.Goals as goal

pub returns : goal.returns
returns c =
    shown_gives c.args.group.now.moment _ _ _ _ _ c.agreed.ensures c.new-answers.ensures.items c.in_ok-append_commands.ensures
    c.in_ok-append_commands-2.ensures
