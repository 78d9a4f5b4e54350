use Rattle.server_tests.proofs.gates.tests.listeners.first_fault_of.Given as goal

abbrev pub ghosts-first_fault_in : goal.ghosts-first_fault_in
ghosts-first_fault_in g a = record { book = a.opened.book; nodes = a.opened.group.nodes; config = a.opened.group.config; linked = a.opened.group.linked }
