use Rattle.std.proofs.Common.{rules}
use Rattle.node_rows.proofs.GroupStepAnswers.{event_step, message_step, output_step}
use Rattle.node_rows.proofs.group_steps.done_with_value.Goals as goal

pub returns-in_ok-message_at : goal.returns-in_ok-message_at
returns-in_ok-message_at c =
    message_step c.args.group.now c.args.word.now c.args.value.now _ _ (search rules) c.in_ok-number.ensures
    c.in_ok-message_at.ensures

pub returns-in_ok-output_at : goal.returns-in_ok-output_at
returns-in_ok-output_at c =
    output_step c.args.group.now c.args.word.now c.args.value.now _ _ (search rules) c.in_ok-index.ensures
    c.in_ok-output_at.ensures

pub returns-in_ok-happened : goal.returns-in_ok-happened
returns-in_ok-happened c = event_step _ _ _ _ _ c.in_ok-event.ensures c.in_ok-happened.ensures
