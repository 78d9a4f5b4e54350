use Rattle.session_base.proofs.FiltersInOrder.{filters_keep_their_order}
use Rattle.session_base.proofs.FiltersApart.{filters_stay_apart}
use Rattle.session_base.proofs.ReceivedRise.{received_rise}
use Rattle.session_base.proofs.theorems.sessions_keep_their_form.Goals as goal

pub returns : goal.returns
returns c = record { filters = filters_stay_apart; order = filters_keep_their_order; received = received_rise }
