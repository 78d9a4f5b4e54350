use Rattle.node_rows.proofs.GroupStepAnswers.{event_step}
use Rattle.node_rows.proofs.group_steps.event_done.Goals as goal

pub returns : goal.returns
returns c = event_step _ _ _ _ _ c.in_ok-event.ensures c.in_ok-happened.ensures
