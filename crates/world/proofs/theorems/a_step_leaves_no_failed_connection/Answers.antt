use Rattle.world.proofs.NoneFailed.{losing_none_failed}
use Rattle.world.proofs.NoneFailedThere.{reached_none_failed, reached_rest}
use Rattle.world.proofs.theorems.a_step_leaves_no_failed_connection.Goals as goal

pub returns-clause-steps : goal.returns-clause-steps
returns-clause-steps c = λ item old new before after did. losing_none_failed item old.core new.core did.given did.run

pub returns-clause-reached : goal.returns-clause-reached
returns-clause-reached c = reached_none_failed

pub returns-clause-rests : goal.returns-clause-rests
returns-clause-rests c = reached_rest
