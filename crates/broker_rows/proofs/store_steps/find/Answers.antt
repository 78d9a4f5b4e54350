use Rattle.std.proofs.Common.{refl}
use Rattle.broker_rows.proofs.StoreAnswers.{find_gives}
use Rattle.broker_rows.proofs.store_steps.find.Goals as goal

pub returns : goal.returns
returns c =
    find_gives _ _ _ _ _ _ _ c.in_ok-filter.ensures c.in_ok-found.ensures c.as_slice.ensures.value
    c.in_ok-retained_answers.ensures refl
