use Rattle.broker.proofs.StandsForLists.{begins_empty, goes_on_standing, goes_on_from_form_one, usual_is_wide}
use Rattle.broker.proofs.theorems.broker_stands_for.Goals as goal

pub returns : goal.returns
returns c = record { fresh = begins_empty; more = goes_on_standing; before = goes_on_from_form_one; usual = usual_is_wide }
