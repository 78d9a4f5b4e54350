use Rattle.broker_base.proofs.StepByStep.{others, none_begins}
use Rattle.broker_base.proofs.step_theorems.others_stay.Goals as goal

pub returns : goal.returns
returns c = record { stays = others; none_begins = none_begins }
