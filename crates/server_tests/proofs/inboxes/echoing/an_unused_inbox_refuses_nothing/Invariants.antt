use Rattle.server_tests.proofs.inboxes.echoing.an_unused_inbox_refuses_nothing.Given as goal

abbrev pub ghosts-echo_of : goal.ghosts-echo_of
ghosts-echo_of g a = record { inbox_of = λ _. a.inbox }
