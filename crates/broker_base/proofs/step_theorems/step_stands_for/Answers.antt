use Rattle.broker_base.proofs.StepByStep.{step_stands}
use Rattle.broker_base.proofs.step_theorems.step_stands_for.Goals as goal

pub returns : goal.returns
returns c = step_stands
