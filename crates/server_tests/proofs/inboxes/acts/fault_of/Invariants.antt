use Rattle.std.proofs.Common.{cond, eqb}
use Rattle.server_tests.proofs.inboxes.acts.fault_of.Given as goal

abbrev pub ghosts-fault_of_two : goal.ghosts-fault_of_two
ghosts-fault_of_two g a = record { inbox_of = λ n. cond (eqb n 1) a.first a.second }
