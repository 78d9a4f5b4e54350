use Rattle.broker_base.proofs.SessionsAfter.{session_is}
use Rattle.broker_base.proofs.DecisionsStand.{mark_is}
use Rattle.broker_base.proofs.step_theorems.decisions_stand_for.Goals as goal

pub returns : goal.returns
returns c = record { sessions = session_is; marks = mark_is }
