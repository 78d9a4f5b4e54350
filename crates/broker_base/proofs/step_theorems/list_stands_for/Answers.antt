use Rattle.broker_base.proofs.StepByStep.{lists_stand, usual_lists_stand, growing_lists_stand}
use Rattle.broker_base.proofs.step_theorems.list_stands_for.Goals as goal

pub returns : goal.returns
returns c = record { every = lists_stand; usual = usual_lists_stand; growing = growing_lists_stand }
