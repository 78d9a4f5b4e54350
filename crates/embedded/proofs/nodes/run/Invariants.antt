use Rattle.embedded.proofs.nodes.run.Given as goal

abbrev pub ghosts-use_inbox : goal.ghosts-use_inbox
ghosts-use_inbox g a = record { inbox_of = λ _. a.inbox }
