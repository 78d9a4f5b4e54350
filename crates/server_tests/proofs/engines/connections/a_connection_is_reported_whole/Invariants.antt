use Rattle.server_tests.proofs.engines.connections.a_connection_is_reported_whole.Given as goal

abbrev pub ghosts-heard : goal.ghosts-heard
ghosts-heard g a = record { inbox_of = λ _. a.inbox }
