use Rattle.bench.proofs.inbox.run.Given as goal

abbrev pub ghosts-measure : goal.ghosts-measure
ghosts-measure g a = record { inbox_of = λ _. a.inbox }
