use Rattle.std.proofs.Common.{refl}
use Rattle.packet_base.specs.Readers.{number_at}
use Rattle.session_base.specs.Counted.{counted_items_at, items_after}
use Rattle.broker_base.specs.form.Form.{size_at, head_at, broker_at}
use Rattle.broker_base.proofs.form.theorems.rows_are_frozen.Goals as goal

pub returns-clause-before : goal.returns-clause-before
unfolding broker_at head_at counted_items_at items_after number_at
returns-clause-before c = (refl, refl, refl)

pub returns-clause-one_before : goal.returns-clause-one_before
returns-clause-one_before c = (refl, refl)

pub returns-clause-others : goal.returns-clause-others
unfolding broker_at head_at size_at
returns-clause-others c = (refl, refl)

pub returns-clause-full : goal.returns-clause-full
returns-clause-full c = (refl, refl, refl)
