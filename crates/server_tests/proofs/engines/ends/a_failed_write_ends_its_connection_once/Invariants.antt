use Rattle.server_tests.proofs.engines.ends.a_failed_write_ends_its_connection_once.Given as goal

abbrev pub ghosts-followed : goal.ghosts-followed
ghosts-followed g a = record { inbox_of = λ _. a.inbox }
