use Rattle.broker_spec.proofs.EntersOnce.{enters_once}
use Rattle.broker_spec.proofs.theorems.enters_once.Goals as goal

pub returns : goal.returns
returns c = enters_once
