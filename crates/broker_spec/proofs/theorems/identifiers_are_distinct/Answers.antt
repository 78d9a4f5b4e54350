use Rattle.broker_spec.proofs.IdentifiersApart.{identifiers_are_distinct}
use Rattle.broker_spec.proofs.IdentifiersInWindow.{identifiers_are_in_the_window, identifiers_are_to_64}
use Rattle.broker_spec.proofs.IdentifiersApart.{started_come_first}
use Rattle.broker_spec.proofs.theorems.identifiers_are_distinct.Goals as goal

pub returns : goal.returns
returns c = record { distinct = identifiers_are_distinct; window = identifiers_are_in_the_window; usual = identifiers_are_to_64; first = started_come_first }
