use Rattle.std.proofs.Common.{false}
use Rattle.server_tests.proofs.posts.acts.fault_of.Given as goal

abbrev pub ghosts-fault_of_opened : goal.ghosts-fault_of_opened
ghosts-fault_of_opened g a = record { book = a.opened.run.book; nodes = 2; config = a.opened.config; linked = false }
