use Rattle.std.proofs.Common.{refl}
use Rattle.broker_rows.proofs.BrokerAnswers.{freeze_gives}
use Rattle.broker_rows.proofs.broker_steps.freeze.Goals as goal

pub returns : goal.returns
returns c = freeze_gives _ _ _ _ _ c.in_ok-bytes.ensures c.in_ok-bytes_answer.ensures c.in_ok-only.ensures refl
