use Rattle.node_rows.proofs.StepAnswers.{item_step}
use Rattle.node_rows.proofs.node_steps.item_done.Goals as goal

pub returns : goal.returns
returns c = item_step _ _ _ _ _ c.in_ok-item.ensures c.in_ok-item_taken.ensures
