use Rattle.node_rows.proofs.StepAnswers.{item_step}
use Rattle.node_rows.proofs.node_steps.done_with_value.Goals as goal

pub returns-in_ok-item_taken : goal.returns-in_ok-item_taken
returns-in_ok-item_taken c = item_step _ _ _ _ _ c.in_ok-item.ensures c.in_ok-item_taken.ensures
