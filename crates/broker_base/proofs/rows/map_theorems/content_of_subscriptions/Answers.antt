use Rattle.broker_base.proofs.of_rows.maps.ContentOfSteps.{subscribing_sets, unsubscribing_clears}
use Rattle.broker_base.proofs.rows.map_theorems.content_of_subscriptions.Goals as goal

pub returns : goal.returns
returns c = record { sets = subscribing_sets; clears = unsubscribing_clears }
