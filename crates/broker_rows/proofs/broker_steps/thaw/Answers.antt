use Rattle.std.proofs.Common.{Err, ap, refl}
use Rattle.broker_rows.proofs.BrokerAnswers.{no_thaw_gives, thaw_gives}
use Rattle.broker_rows.proofs.broker_steps.thaw.Goals as goal

pub returns-in_ok-only-in-Ok : goal.returns-in_ok-only-in-Ok
returns-in_ok-only-in-Ok c =
    thaw_gives _ _ _ _ _ _ c.as_slice.ensures c.in-Ok.ensures.ok c.in_ok-word-in-Ok.ensures c.in_ok-only-in-Ok.ensures

pub returns-in_ok-only-in-Err-Shape : goal.returns-in_ok-only-in-Err-Shape
returns-in_ok-only-in-Err-Shape c =
    no_thaw_gives _ _ _ _ _ _ c.as_slice.ensures (c.in-Err-Shape.ensures.shape (ap Err c.in-Err-Shape.field-0-is))
    c.in_ok-word-in-Err-Shape.ensures c.in_ok-only-in-Err-Shape.ensures refl
