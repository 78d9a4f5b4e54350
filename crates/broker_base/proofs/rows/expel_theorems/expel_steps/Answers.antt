use Rattle.broker_base.proofs.of_rows.ExpelSteps.{expel_step, nobodys_expel_step}
use Rattle.broker_base.proofs.of_rows.maps.ExpelledMaps.{expel_removes_the_owner, expel_drops_the_client}
use Rattle.broker_base.proofs.rows.expel_theorems.expel_steps.Goals as goal

pub returns : goal.returns
returns c = record { step = expel_step; nobody = nobodys_expel_step; owners = expel_removes_the_owner; content = expel_drops_the_client }
