use Rattle.core_tests.proofs.LateMessages.{late_held, late_installed, long_commit}
use Rattle.core_tests.proofs.orders.late_messages_change_nothing.Goals as goal

pub returns-clause-held : goal.returns-clause-held
returns-clause-held g c = late_held g.M.Machine.rules

pub returns-clause-commits : goal.returns-clause-commits
returns-clause-commits g c = long_commit g.M.Machine.rules

pub returns-clause-installed : goal.returns-clause-installed
returns-clause-installed g c = late_installed g.row.M-Output.Denot
