use Rattle.broker_base.proofs.of_rows.maps.ContentOfSteps.{leaving_drops_the_clean, beginning_drops}
use Rattle.broker_base.proofs.of_rows.maps.ContentOfStart.{start_drops_the_clean}
use Rattle.broker_base.proofs.rows.map_theorems.content_of_ended_sessions.Goals as goal

pub returns : goal.returns
returns c = record { leaving = leaving_drops_the_clean; begins = beginning_drops; start = start_drops_the_clean }
